use Rattle.std.proofs.Common.{◌≡◌, drop}
use Rattle.cb_types.specs.Declares.{statics_of}
use Rattle.cb_types.proofs.tables.statics.Given as goal

abbrev pub invariant-loop-machine : goal.invariant-loop-machine
invariant-loop-machine l = statics_of l.owner l.set l.names (drop l.machine-index l.machines) ≡ statics_of 0 0 l.fn.names l.machines
