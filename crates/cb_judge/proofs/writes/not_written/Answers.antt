use Rattle.std.proofs.Common.{arith}
use Rattle.std.proofs.lemmas.Grind.{common_steps}
use Rattle.cb_forms.proofs.Order.{least_assoc}
use Rattle.cb_judge.proofs.Sureness.{sure_is_always}
use Rattle.cb_judge.proofs.writes.not_written.Goals as goal

pub loop-name-preserved : goal.loop-name-preserved
loop-name-preserved c =
    let known = sure_is_always c.name-item.result.text c.args.subst.now in grind (arith, common_steps, least_assoc, known)
