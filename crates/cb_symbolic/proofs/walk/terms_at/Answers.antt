use Rattle.std.proofs.Common.{[], ◌∷◌, ◌++◌, ap, ◌∙◌}
use Rattle.cb_symbolic.proofs.WalkLemmas.{terms_step}
use Rattle.cb_symbolic.proofs.walk.terms_at.Goals as goal

pub loop-place-preserved : goal.loop-place-preserved
loop-place-preserved c =
    let pushed = c.in_ok-push.ensures.ok ∙ ap (λ x. c.loop-place.written ++ (x, c.in_ok-term.term) ∷ []) c.in_ok-name.ensures in
    terms_step c.args.declared.now c.args.terms.now c.loop-place.place c.index-declared-place.result c.in_ok-term.term c.loop-place.written c.push.new.self _
    c.loop-place-test.true c.index-declared-place.is c.in_ok-term.ensures pushed c.loop-place.invariant
