use Rattle.std.proofs.Common.{ap, ◌∙◌, arith}
use Rattle.cb_signatures.specs.Calls.{Callees, callee_among}
use Rattle.cb_signatures.proofs.Numbered.{are_callees}
use Rattle.cb_signatures.proofs.operations.all_operations.Goals as goal

pub returns-clause-table : goal.returns-clause-table
returns-clause-table c k x =
    ap (λ (os : Callees). callee_among os k x) c.in_ok-operations_of.ensures.table
    ∙ are_callees c.args.known.now c.args.names.now c.args.machines.now (omega (arith, c.if-machines.false)) k x
