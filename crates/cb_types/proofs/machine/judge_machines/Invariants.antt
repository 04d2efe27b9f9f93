use Rattle.std.proofs.Common.{◌≡◌, drop}
use Rattle.cb_forms.specs.Faults.{least, first}
use Rattle.cb_types.specs.MachineFaults.{machines_fault}
use Rattle.cb_types.proofs.machine.judge_machines.Given as goal

abbrev pub invariant-loop-machine : goal.invariant-loop-machine
invariant-loop-machine l =
    (least l.fault (first (machines_fault l.known l.fn.names l.owner (drop l.machine-index l.machines))) ≡ first (machines_fault l.known l.fn.names 0 l.machines))
    × (l.names ≡ l.fn.names)
