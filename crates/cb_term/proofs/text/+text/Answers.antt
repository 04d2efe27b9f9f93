use Rattle.std.proofs.Common.{sym, ap, ◌∙◌, arith}
use Rattle.std.proofs.lemmas.Grind.{common_steps}
use Rattle.cb_term.specs.Tree.{Not}
use Rattle.cb_term.specs.Text.{formula_text}
use Rattle.cb_term.specs.View.{formula_of}
use Rattle.cb_term.proofs.TextLemmas.{not_text, nothing_put, unequal_text, no_member_text}
use Rattle.cb_term.proofs.text.+text.Goals as goal

pub formula_within-returns-in_ok-formula_within-in-Not-clause-text : goal.formula_within-returns-in_ok-formula_within-in-Not-clause-text
formula_within-returns-in_ok-formula_within-in-Not-clause-text t c =
    let tried = c.in_ok-negated_within-in-Not.ensures in
    let before = nothing_put c.negated_within.new.out.items c.args.out.now.items
    (formula_text c.args.sets.now.sets.items c.args.bound.now c.args.inner (Not c.deref.result.now)) c.in_ok-negated_within-in-Not.field-0 tried.text c.if-branch.false in
    let whole = not_text c.args.sets.now.sets.items c.args.bound.now c.args.inner _ _ _
    (sym c.formula.view_is ∙ ap formula_of c.in-Not.is ∙ ap Not (sym c.deref.ensures)) tried.answer c.if-branch.false in
    grind (arith, common_steps, before, whole)

pub negated_within-returns-in_ok-term_within-in-Equal-2-clause-text : goal.negated_within-returns-in_ok-term_within-in-Equal-2-clause-text
negated_within-returns-in_ok-term_within-in-Equal-2-clause-text t c =
    let whole = unequal_text c.args.sets.now.sets.items c.args.bound.now c.args.inner _ _ _ _ (sym c.formula.view_is ∙ ap formula_of c.in-Rel.is) c.in-Equal.is in
    grind (arith, common_steps, whole)

pub negated_within-returns-in_ok-term_within-in-Member-2-clause-text : goal.negated_within-returns-in_ok-term_within-in-Member-2-clause-text
negated_within-returns-in_ok-term_within-in-Member-2-clause-text t c =
    let whole = no_member_text c.args.sets.now.sets.items c.args.bound.now c.args.inner _ _ _ _ (sym c.formula.view_is ∙ ap formula_of c.in-Rel.is) c.in-Member.is in
    grind (arith, common_steps, whole)
