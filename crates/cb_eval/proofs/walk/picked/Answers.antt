use Rattle.std.proofs.Common.{arith, w64}
use Rattle.std.proofs.lemmas.Grind.{common_steps}
use Rattle.std.proofs.lemmas.Int.{ints, to_z-of_z}
use Rattle.cb_eval.proofs.WalkLemmas.{picked_step}
use Rattle.cb_eval.proofs.walk.picked.Goals as goal
use Rattle.cb_eval.proofs.walk.picked.Goals.{then-bits-eq1+in_ok-push, else-bits-eq1}

pub loop-i-preserved : goal.loop-i-preserved
loop-i-preserved c =
    let same = to_z-of_z w64 c.args.first c.ranges.first in
    let step = picked_step c.args.first c.args.count c.loop-i.i c.loop-i.bits c.loop-i-test.true in
    elim c.if-bits-eq1.branch [
      | then-bits-eq1+in_ok-push w ↦ grind (arith, common_steps, ints, same, step)
      | else-bits-eq1 w ↦ grind (arith, common_steps, ints, same, step)
    ]
