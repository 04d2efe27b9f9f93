use Rattle.std.proofs.Common.{◌≡◌, ◌++◌, drop}
use Rattle.cb_types.specs.NormalMachines.{machines_in}
use Rattle.cb_types.proofs.system.normal_machines.Given as goal

abbrev pub invariant-loop-machine : goal.invariant-loop-machine
invariant-loop-machine l =
    (l.all ++ machines_in l.known l.fn.names l.owner (drop l.machine-index l.machines) ≡ machines_in l.known l.fn.names 0 l.machines)
    × (l.names ≡ l.fn.names)
