use Rattle.std.proofs.Common.{arith}
use Rattle.std.proofs.lemmas.Grind.{common_steps}
use Rattle.cb_flow.proofs.Walks.{operand_nodes}
use Rattle.cb_flow.proofs.UserSteps.{stop_uses, skip_uses, call_uses, if_uses, prefix_uses, external_uses, internal_uses, no_operand_uses, operand_uses}
use Rattle.cb_flow.proofs.ends.+uses.Goals as goal

pub add_uses-returns-in-If : goal.add_uses-returns-in-If
add_uses-returns-in-If t c = grind (arith, common_steps, if_uses)

pub add_uses-returns-in-Prefix : goal.add_uses-returns-in-Prefix
add_uses-returns-in-Prefix t c = grind (arith, common_steps, prefix_uses)

pub add_uses-returns-in-Stop : goal.add_uses-returns-in-Stop
add_uses-returns-in-Stop t c = grind (arith, common_steps, stop_uses, skip_uses, call_uses)

pub add_uses-returns-in-Stop-2 : goal.add_uses-returns-in-Stop-2
add_uses-returns-in-Stop-2 t c = grind (arith, common_steps, stop_uses, skip_uses, call_uses)

pub add_uses-returns-in-Stop-3 : goal.add_uses-returns-in-Stop-3
add_uses-returns-in-Stop-3 t c = grind (arith, common_steps, stop_uses, skip_uses, call_uses)

pub add_uses-returns-in-External : goal.add_uses-returns-in-External
add_uses-returns-in-External t c = grind (arith, common_steps, external_uses, internal_uses)

pub add_each-add_uses-requires : goal.add_each-add_uses-requires
add_each-add_uses-requires t c =
    let fewer = operand_nodes c.args.operands.now c.loop-operand.operand-index c.operand-item.result c.loop-operand-test.true c.operand-item.is in
    (omega (arith, fewer, c.decreases), tt)

pub add_each-loop-operand-preserved : goal.add_each-loop-operand-preserved
add_each-loop-operand-preserved t c = grind (arith, common_steps, operand_uses)

pub add_each-returns : goal.add_each-returns
add_each-returns t c = grind (arith, common_steps, no_operand_uses)
