use Rattle.std.proofs.Common.{◌≡◌, drop}
use Rattle.cb_owed.specs.Limits.{machines_within}
use Rattle.cb_owed.proofs.limits.machines_within.Given as goal

abbrev pub invariant-loop-machine : goal.invariant-loop-machine
invariant-loop-machine l = machines_within (drop l.machine-index l.machines) ≡ machines_within l.machines
