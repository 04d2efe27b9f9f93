use Rattle.std.proofs.Common.{◌≡◌, drop}
use Rattle.cb_forms.specs.Faults.{least, first}
use Rattle.cb_types.specs.MachineFaults.{operations_fault}
use Rattle.cb_types.proofs.machine.judge_operations.Given as goal

abbrev pub invariant-loop-operation : goal.invariant-loop-operation
invariant-loop-operation l =
    (least l.fault (first (operations_fault l.view l.fn.names (drop l.operation-index l.operations))) ≡ first (operations_fault l.view l.fn.names l.operations))
    × (l.names ≡ l.fn.names)
