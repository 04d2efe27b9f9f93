use Rattle.std.proofs.Common.{◌≡◌, [], drop}
use Rattle.cb_forms.specs.Faults.{least, first}
use Rattle.cb_types.specs.MachineFaults.{operation_names_fault}
use Rattle.cb_types.proofs.machine.judge_operation_names.Given as goal

abbrev pub invariant-loop-operation : goal.invariant-loop-operation
invariant-loop-operation l = least l.fault (first (operation_names_fault l.seen (drop l.operation-index l.operations))) ≡ first (operation_names_fault [] l.operations)
