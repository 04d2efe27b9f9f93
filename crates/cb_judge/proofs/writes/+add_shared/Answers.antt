use Rattle.std.proofs.Common.{◌≡◌, ◌∙◌, ap, take, arith}
use Rattle.std.proofs.lemmas.Grind.{common_steps}
use Rattle.cb_forms.proofs.Order.{least_assoc}
use Rattle.cb_judge.specs.Writes.{after}
use Rattle.cb_judge.proofs.Grows.{take_after}
use Rattle.cb_judge.proofs.writes.+add_shared.Goals as goal

pub returns-in_ok-add_targets-in-IfElse-clause-written : goal.returns-in_ok-add_targets-in-IfElse-clause-written
returns-in_ok-add_targets-in-IfElse-clause-written t c =
    let back = take_after c.in-IfElse.then.value c.args.written.now in grind (arith, common_steps, back)

pub returns-in_ok-add_targets-in-IfElse-clause-fault : goal.returns-in_ok-add_targets-in-IfElse-clause-fault
returns-in_ok-add_targets-in-IfElse-clause-fault t c =
    let w = c.args.written.now in
    let left : c.leave.new.self ≡ w =
    c.leave.ensures ∙ ap (take c.len-before.result) c.in_ok-f-in-IfElse.ensures.written
    ∙ ap (λ n. take n (after w c.deref-in-IfElse.result.now)) c.len-before.ensures ∙ take_after c.deref-in-IfElse.result.now w
    in
    grind (arith, common_steps, left)

pub loop-side-preserved : goal.loop-side-preserved
loop-side-preserved t c =
    let w = c.args.written.now in
    let side = c.side-item.result in
    let left : c.leave-in-loop-side.new.self ≡ w =
    c.leave-in-loop-side.ensures ∙ ap (take c.len-before-in-Choice.result) c.in_ok-f-in-Choice.ensures.written
    ∙ ap (λ v. take c.len-before-in-Choice.result (after v side)) c.loop-side.invariant.0
    ∙ ap (λ n. take n (after w side)) c.loop-side.invariant.2 ∙ take_after side w
    in
    (left, grind (arith, common_steps, least_assoc), c.loop-side.invariant.2)
