use Rattle.std.proofs.Common.{◌≡◌, ◌++◌, drop}
use Rattle.cb_types.specs.NormalMachines.{sets_of}
use Rattle.cb_types.proofs.system.all_sets.Given as goal

abbrev pub invariant-loop-machine : goal.invariant-loop-machine
invariant-loop-machine l = l.all.items ++ sets_of (drop l.machine-index l.machines) ≡ sets_of l.machines
