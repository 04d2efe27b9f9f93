use Rattle.std.proofs.Common.{◌≡◌, ◌-◌, ◌∙◌, ◌∷◌, ℕ, Bool, true, false, Option, Some, None, drop, refl, sym, ap, arith}
use Rattle.std.proofs.lemmas.Grind.{common_steps}
use Rattle.cb_term.specs.Table.{sizes_of}
use Rattle.cb_term.specs.Tree.{trees_of}
use Rattle.cb_term.specs.View.{formula_of}
use Rattle.cb_spec.specs.Stores.{look_of}
use Rattle.cb_spec.specs.TypedTerms.{is_membership}
use Rattle.cb_eval.specs.Evaluation.{items_in, truth_in, until}
use Rattle.cb_eval.specs.Walks.{value_number, walked_domain}
use Rattle.cb_eval.proofs.EvaluateLemmas.{items_none, right_same, walk_goes_on, walk_stops, walk_lacks, exist_is}
use Rattle.cb_eval.proofs.evaluate.+evaluate.Goals as goal

pub value_in-returns-in_default-3-clause-value : goal.value_in-returns-in_default-3-clause-value
value_in-returns-in_default-3-clause-value t c =
    let none : items_in (sizes_of c.args.sets.now) c.args.named (look_of c.args.store.now) c.args.bound.now.items (trees_of (drop (c.loop-left.left - 1) c.as_slice-terms.result.now)) ≡ None = grind (arith, common_steps) in
    let whole = items_none (sizes_of c.args.sets.now) c.args.named (look_of c.args.store.now) c.args.bound.now.items (c.loop-left.left - 1) c.as_slice-terms.result.now none in
    grind (arith, common_steps, whole)

pub value_in-returns-then-len-gt-MOST_ITEMS-clause-value :
    goal.value_in-returns-then-len-gt-MOST_ITEMS-clause-value
value_in-returns-then-len-gt-MOST_ITEMS-clause-value t c =
    let none : items_in (sizes_of c.args.sets.now) c.args.named (look_of c.args.store.now) c.args.bound.now.items (trees_of (drop (c.loop-left.left - 1) c.as_slice-terms.result.now)) ≡ None = grind (arith, common_steps) in
    let whole = items_none (sizes_of c.args.sets.now) c.args.named (look_of c.args.store.now) c.args.bound.now.items (c.loop-left.left - 1) c.as_slice-terms.result.now none in
    grind (arith, common_steps, whole)

pub truth_in-returns-in-Some-13-clause-value : goal.truth_in-returns-in-Some-13-clause-value
truth_in-returns-in-Some-13-clause-value t c =
    let same = right_same (sizes_of c.args.sets.now) c.args.named (look_of c.args.store.now) c.args.bound.now.items (is_membership c.in-Rel.sign) c.in-Rel.right c.in_default-range_ends.ensures in
    grind (arith, common_steps, same)

pub truth_in-loop-number-preserved : goal.truth_in-loop-number-preserved
truth_in-loop-number-preserved t c =
    let answers : ℕ → Option Bool = λ i. truth_in (sizes_of c.args.sets.now) c.args.named (look_of c.args.store.now) (value_number (sizes_of c.args.sets.now) c.in-Some-premise_domain.domain i ∷ c.args.bound.now.items) c.in-Every.body.value in
    let got : answers c.loop-number.number ≡ Some true = grind (arith, common_steps) in
    let on = walk_goes_on true c.value_count-number-end.result answers c.loop-number.number c.loop-number-test.true got in
    (grind (arith, common_steps), sym on ∙ c.loop-number.invariant.1)

pub truth_in-loop-number-2-preserved : goal.truth_in-loop-number-2-preserved
truth_in-loop-number-2-preserved t c =
    let answers : ℕ → Option Bool = λ i. truth_in (sizes_of c.args.sets.now) c.args.named (look_of c.args.store.now) (value_number (sizes_of c.args.sets.now) c.in-Some-walked_domain.domain i ∷ c.args.bound.now.items) c.in-Exist.body.value in
    let got : answers c.loop-number-2.number ≡ Some false = grind (arith, common_steps) in
    let on = walk_goes_on false c.value_count-number-end-in-Exist.result answers c.loop-number-2.number c.loop-number-2-test.true got in
    (grind (arith, common_steps), sym on ∙ c.loop-number-2.invariant.1)

pub truth_in-returns-in-Some-true-answer-clause-value : goal.truth_in-returns-in-Some-true-answer-clause-value
truth_in-returns-in-Some-true-answer-clause-value t c =
    let answers : ℕ → Option Bool = λ i. truth_in (sizes_of c.args.sets.now) c.args.named (look_of c.args.store.now) (value_number (sizes_of c.args.sets.now) c.in-Some-walked_domain.domain i ∷ c.args.bound.now.items) c.in-Exist.body.value in
    let got : answers c.loop-number-2.number ≡ Some true = grind (arith, common_steps) in
    let end = sym c.loop-number-2.invariant.1 ∙ walk_stops false c.value_count-number-end-in-Exist.result answers c.loop-number-2.number true refl c.loop-number-2-test.true got in
    let at : walked_domain (sizes_of c.args.sets.now) c.in-Exist.kind c.in-Exist.body.value ≡ Some c.in-Some-walked_domain.domain = grind (arith, common_steps) in
    let is = exist_is (sizes_of c.args.sets.now) c.args.named (look_of c.args.store.now) c.args.bound.now.items c.in-Exist.name c.in-Exist.kind c.in-Exist.body.value c.in-Some-walked_domain.domain c.if-not-named-2.false at in
    sym (ap (truth_in (sizes_of c.args.sets.now) c.args.named (look_of c.args.store.now) c.args.bound.now.items) (sym c.formula.view_is ∙ ap formula_of c.in-Exist.is)
    ∙ is ∙ ap (λ n. until false 0 n answers) (sym c.value_count-number-end-in-Exist.ensures) ∙ end)

pub truth_in-returns-in-None-answer-2-clause-value : goal.truth_in-returns-in-None-answer-2-clause-value
truth_in-returns-in-None-answer-2-clause-value t c =
    let answers : ℕ → Option Bool = λ i. truth_in (sizes_of c.args.sets.now) c.args.named (look_of c.args.store.now) (value_number (sizes_of c.args.sets.now) c.in-Some-walked_domain.domain i ∷ c.args.bound.now.items) c.in-Exist.body.value in
    let got : answers c.loop-number-2.number ≡ None = grind (arith, common_steps) in
    let end = sym c.loop-number-2.invariant.1 ∙ walk_lacks false c.value_count-number-end-in-Exist.result answers c.loop-number-2.number c.loop-number-2-test.true got in
    let at : walked_domain (sizes_of c.args.sets.now) c.in-Exist.kind c.in-Exist.body.value ≡ Some c.in-Some-walked_domain.domain = grind (arith, common_steps) in
    let is = exist_is (sizes_of c.args.sets.now) c.args.named (look_of c.args.store.now) c.args.bound.now.items c.in-Exist.name c.in-Exist.kind c.in-Exist.body.value c.in-Some-walked_domain.domain c.if-not-named-2.false at in
    sym (ap (truth_in (sizes_of c.args.sets.now) c.args.named (look_of c.args.store.now) c.args.bound.now.items) (sym c.formula.view_is ∙ ap formula_of c.in-Exist.is)
    ∙ is ∙ ap (λ n. until false 0 n answers) (sym c.value_count-number-end-in-Exist.ensures) ∙ end)
