use Rattle.std.proofs.Common.{◌≡◌, ◌++◌, drop, map}
use Rattle.cb_types.specs.NormalMachines.{operation_in}
use Rattle.cb_types.proofs.system.normal_operations.Given as goal

abbrev pub invariant-loop-operation : goal.invariant-loop-operation
invariant-loop-operation l =
    (l.all ++ map (operation_in l.view l.fn.names) (drop l.operation-index l.operations) ≡ map (operation_in l.view l.fn.names) l.operations)
    × (l.names ≡ l.fn.names)
