use Rattle.std.proofs.Common.{arith}
use Rattle.std.proofs.lemmas.Grind.{common_steps}
use Rattle.cb_flow.proofs.Walks.{operand_nodes, most_of, chained_step, chained_end}
use Rattle.cb_flow.proofs.silent.+cost.Goals as goal

pub cost-returns-in-External : goal.cost-returns-in-External
cost-returns-in-External t c = grind (arith, common_steps, most_of c.args.costs.now c.as_slice.result.now)

pub most-cost-requires : goal.most-cost-requires
most-cost-requires t c =
    let fewer = operand_nodes c.args.operands.now c.loop-operand.operand-index c.operand-item.result c.loop-operand-test.true c.operand-item.is in
    (omega (arith, fewer, c.decreases), tt)

pub chained-cost-requires : goal.chained-cost-requires
chained-cost-requires t c =
    let fewer = operand_nodes c.args.operands.now c.loop-operand.operand-index c.operand-item.result c.loop-operand-test.true c.operand-item.is in
    (omega (arith, fewer, c.decreases), tt)

pub chained-loop-operand-preserved : goal.chained-loop-operand-preserved
chained-loop-operand-preserved t c = grind (arith, common_steps, chained_step)

pub chained-returns : goal.chained-returns
chained-returns t c = grind (arith, common_steps, chained_end)
