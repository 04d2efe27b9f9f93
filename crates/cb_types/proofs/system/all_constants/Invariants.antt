use Rattle.std.proofs.Common.{◌≡◌, ◌++◌, drop}
use Rattle.cb_types.specs.NormalMachines.{constants_of}
use Rattle.cb_types.proofs.system.all_constants.Given as goal

abbrev pub invariant-loop-machine : goal.invariant-loop-machine
invariant-loop-machine l = l.all ++ constants_of (drop l.machine-index l.machines) ≡ constants_of l.machines
