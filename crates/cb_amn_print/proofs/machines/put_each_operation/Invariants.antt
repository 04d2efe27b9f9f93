use Rattle.std.proofs.Common.{◌≡◌, ◌++◌, drop, true}
use Rattle.cb_amn_print.specs.Machines.{operations_text}
use Rattle.cb_amn_print.proofs.machines.put_each_operation.Given as goal

abbrev pub invariant-loop-operation : goal.invariant-loop-operation
invariant-loop-operation l = l.out.items ++ operations_text l.first (drop l.operation-index l.operations) ≡ l.initial.out.items ++ operations_text true l.operations
