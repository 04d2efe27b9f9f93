use Rattle.std.proofs.Common.{arith}
use Rattle.std.proofs.lemmas.Grind.{common_steps}
use Rattle.cb_forms.proofs.Order.{least_assoc}
use Rattle.cb_judge.proofs.subst.+judge_subst.Goals as goal

pub loop-side-preserved : goal.loop-side-preserved
loop-side-preserved t c = grind (arith, common_steps, least_assoc)
