use Rattle.std.proofs.Common.{◌≡◌, drop}
use Rattle.cb_signatures.specs.Tables.{entered_from, own_operations}
use Rattle.cb_signatures.proofs.operations.own_operations.Given as goal

abbrev pub invariant-loop-operation : goal.invariant-loop-operation
invariant-loop-operation l =
    (entered_from l.view l.fn.names l.owner l.number l.own (drop l.operation-index l.machine.operations) ≡ own_operations l.known l.fn.names l.owner l.machine)
    × (l.names ≡ l.fn.names)
