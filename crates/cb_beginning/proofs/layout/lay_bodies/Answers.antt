use Rattle.std.proofs.Common.{◌≤◌, get_or, length, subst, ap, ◌∙◌}
use Rattle.cb_beginning.proofs.LayoutLemmas.{first_more, first_all}
use Rattle.cb_beginning.proofs.layout.lay_bodies.Goals as goal

pub loop-definition-preserved : goal.loop-definition-preserved
loop-definition-preserved c =
    let o = c.args.controller.now in
    let d = c.definition-item.result in
    first_more o c.args.code.now c.loop-definition.code c.lay.new.self c.loop-definition.bodies c.push.new.self c.loop-definition.definition-index c.in_ok-lay.field-0 d
    (c.definition-item.is ∙ ap (λ ds. get_or ds c.loop-definition.definition-index d) c.as_slice-definition-items.ensures) c.in_ok-lay.ensures.more c.in_ok-lay.ensures.place c.in_ok-push.ensures.ok c.loop-definition.invariant

pub returns-clause-bodies : goal.returns-clause-bodies
returns-clause-bodies c =
    let o = c.args.controller.now in
    first_all o c.args.code.now c.loop-definition.code c.loop-definition.bodies c.loop-definition.definition-index
    (subst (λ ds. length ds ≤ c.loop-definition.definition-index) c.as_slice-definition-items.ensures c.loop-definition-test.false) c.loop-definition.invariant
