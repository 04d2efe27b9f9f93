use Rattle.std.proofs.Common.{arith}
use Rattle.std.proofs.lemmas.Grind.{common_steps}
use Rattle.cb_forms.proofs.Order.{least_assoc}
use Rattle.cb_flow.proofs.Walks.{operand_nodes}
use Rattle.cb_flow.proofs.silent.+after.Goals as goal

pub each_after-loop-operand-preserved : goal.each_after-loop-operand-preserved
each_after-loop-operand-preserved t c = grind (arith, common_steps, least_assoc)

pub each_after-after-requires : goal.each_after-after-requires
each_after-after-requires t c =
    let fewer = operand_nodes c.args.operands.now c.loop-operand.operand-index c.operand-item.result c.loop-operand-test.true c.operand-item.is in
    (omega (arith, fewer, c.decreases), tt)
