use Rattle.cb_check.proofs.WalkSteps.{counted_all}
use Rattle.cb_check.proofs.premises.formulas_nodes.Goals as goal

pub returns : goal.returns
returns c = counted_all c.args.formulas.now c.loop-formula.formula-index c.loop-formula.count c.loop-formula-test.false c.loop-formula.invariant.0 c.loop-formula.invariant.1
