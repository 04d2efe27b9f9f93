use Rattle.std.proofs.Common.{◌≡◌, ℕ, suc, ◌+◌, ◌-◌, ◌<◌, List, [], ◌∷◌, ◌++◌, ap, ap₂, ◌∙◌, subst, arith, append_assoc}
use Rattle.cb_term.specs.declared.sign.RelSign.TheVariants.{Equal}
use Rattle.cb_term.specs.Tree.{TermTree, Elem, Rel}
use Rattle.cb_seq.specs.declared.premise.Premise.{Premise}
use Rattle.cb_seq.specs.Premises.{adding}
use Rattle.cb_check_sets.specs.SetRules.{each_element}
use Rattle.cb_check_sets.proofs.premises.each_element.Goals as goal

-- one premise more is made
step : (t : TermTree) (set i n : ℕ) (made made' whole : List Premise) (p : Premise) → i < n → p ≡ adding (Rel Equal t (Elem set i) ∷ []) → made' ≡ made ++ p ∷ [] →
    made ++ each_element t set i (n - i) ≡ whole → made' ++ each_element t set (i + 1) (n - (i + 1)) ≡ whole
step t set i n made made' whole p lt is_p is_made so_far =
    let rest : List Premise = each_element t set (i + 1) (n - (i + 1)) in
    let left : n - i ≡ suc (n - (i + 1)) = omega arith in
    ap (λ ps. ps ++ rest) is_made ∙ append_assoc made (p ∷ []) rest ∙ ap (λ r. made ++ r ∷ rest) is_p ∙ subst (λ k. made ++ each_element t set i k ≡ whole) left so_far

pub loop-index-preserved : goal.loop-index-preserved
loop-index-preserved c =
    let is_p : c.in_ok-with.field-0 ≡ adding (Rel Equal c.args.term.now (Elem c.args.set c.loop-index.index) ∷ []) =
    c.in_ok-with.ensures ∙ ap (λ f. adding (f ∷ [])) (c.rel-fact.ensures ∙ ap₂ (Rel Equal) c.in_ok-copy.ensures c.elem-element.ensures) in
    step c.args.term.now c.args.set c.loop-index.index c.in_ok-size.size c.loop-index.premises c.push.new.self _ c.in_ok-with.field-0 (omega arith) is_p c.in_ok-push.ensures.ok c.loop-index.invariant
