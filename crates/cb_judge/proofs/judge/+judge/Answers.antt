use Rattle.std.proofs.Common.{arith}
use Rattle.std.proofs.lemmas.Grind.{common_steps}
use Rattle.cb_forms.proofs.Order.{least_assoc}
use Rattle.cb_judge.proofs.judge.+judge.Goals as goal

pub judge_term-loop-item-preserved : goal.judge_term-loop-item-preserved
judge_term-loop-item-preserved t c = grind (arith, common_steps, least_assoc)
