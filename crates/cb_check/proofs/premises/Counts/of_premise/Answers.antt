use Rattle.std.proofs.Common.{arith}
use Rattle.cb_check.proofs.WalkSteps.{nodes_of_both}
use Rattle.cb_check.proofs.premises.Counts.of_premise.Goals as goal

pub returns : goal.returns
returns c q k = (
  rw (← c.as_slice.ensures) (omega (arith, nodes_of_both q.hypotheses c.as_slice.result.now, k.0, c.saturating_add.ensures, c.formulas_nodes-added.ensures)),
  c.of_goal.ensures q.goal k.1,
)
