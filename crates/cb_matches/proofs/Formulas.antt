-- Formulas one after another: counts and faults.
use Rattle.std.proofs.Common.{◌≡◌, List, [], ◌++◌, sym, ap, subst, ◌∙◌}
use Rattle.std.proofs.lemmas.Grind.{flat_map-append}
use Rattle.cb_term.specs.Tree.{FormulaTree}
use Rattle.cb_obligations.specs.Steps.{Step, steps_under}
use Rattle.cb_wp.specs.declared.limits.MakeFault.{MakeFault}
use Rattle.cb_wp.specs.declared.limits.Used.{Used}
use Rattle.cb_wp.specs.Limits.{Counted, Faulted, count}
use Rattle.cb_wp.proofs.CountLemmas.{count_after}
use Rattle.cb_ways.proofs.WalkLemmas.{faulted_before, faulted_after}
use Rattle.cb_matches.specs.Matches.{formulas_steps}

formulas_both : (fs gs hs : List FormulaTree) → hs ≡ fs ++ gs → formulas_steps hs ≡ formulas_steps fs ++ formulas_steps gs
formulas_both fs gs hs is = ap formulas_steps is ∙ flat_map-append (λ (f : FormulaTree). steps_under [] 0 [] [] f) fs gs

pub counted_both : (fs gs hs : List FormulaTree) (u v w : Used) → hs ≡ fs ++ gs → Counted u v (formulas_steps fs) → Counted v w (formulas_steps gs) →
    Counted u w (formulas_steps hs)
counted_both fs gs hs u v w is p q =
    ap (λ l. count u.obligations u.nodes l) (formulas_both fs gs hs is)
    ∙ count_after (formulas_steps fs) (formulas_steps gs) u.obligations u.nodes v.obligations v.nodes p ∙ q

pub fault_first : (fs gs hs : List FormulaTree) (u : Used) (e : MakeFault) → hs ≡ fs ++ gs → Faulted e u (formulas_steps fs) → Faulted e u (formulas_steps hs)
fault_first fs gs hs u e is f =
    subst (λ (l : List Step). Faulted e u l) (sym (formulas_both fs gs hs is)) (faulted_before e u (formulas_steps fs) (formulas_steps gs) f)

pub fault_second : (fs gs hs : List FormulaTree) (u v : Used) (e : MakeFault) → hs ≡ fs ++ gs → Counted u v (formulas_steps fs) →
    Faulted e v (formulas_steps gs) → Faulted e u (formulas_steps hs)
fault_second fs gs hs u v e is p f =
    subst (λ (l : List Step). Faulted e u l) (sym (formulas_both fs gs hs is)) (faulted_after e u v (formulas_steps fs) (formulas_steps gs) p f)
