-- With an equation that holds, a formula with the one side for the other holds alike.
use Rattle.std.proofs.Common.{◌≡◌, ℕ, true, List, [], sym, ap, subst, ◌↔◌}
use Rattle.std.proofs.lemmas.Bool.{eqb-true}
use Rattle.std.proofs.lemmas.Bool.Decides.{Decides-int_eq}
use Rattle.cb_term.specs.declared.sign.RelSign.TheVariants.{Equal}
use Rattle.cb_term.specs.declared.value.Value.{Value}
use Rattle.cb_term.specs.declared.value.Value.TheVariants as value
use Rattle.cb_term.specs.Tree.{TermTree, FormulaTree, Rel}
use Rattle.cb_term.specs.Values.{Look, rel}
use Rattle.cb_term.specs.Holds.{Holds, IsValue}
use Rattle.cb_term.specs.Closed.{IsClosed}
use Rattle.cb_term.proofs.HoldsLemmas.{IsStable, by_value}
use Rattle.cb_term.proofs.ClosedLemmas.{value_closed}
use Rattle.cb_term.proofs.ValueLemmas.{same_truth_tells, same_items_tells}
use Rattle.cb_seq.proofs.PremiseLemmas.{rel_holds}
use Rattle.cb_check_names.specs.Replace.{replaced}
use Rattle.cb_check_names.proofs.ReplaceLemmas.{replaced_holds}

-- values that are equal by the sign are one
equal_tells : (u w : Value) → rel Equal u w ≡ true → u ≡ w
equal_tells (value.Int x) (value.Int y) e = ap value.Int ((Decides-int_eq x y).0 e)
equal_tells (value.Truth b) (value.Truth c) e = ap value.Truth (same_truth_tells b c e)
equal_tells (value.Elem j) (value.Elem k) e = ap value.Elem (eqb-true j k e)
equal_tells (value.Set xs) (value.Set ys) e = ap value.Set ((same_items_tells xs ys).0 e)
equal_tells u w e = cc

pub replaced_alike : (sizes : List ℕ) (look : Look) (s t : TermTree) → IsClosed 0 (Rel Equal s t) → Holds sizes look (Rel Equal s t) [] →
    (f : FormulaTree) (C : Type 0) → IsStable C → ((Holds sizes look (replaced s t f) [] ↔ Holds sizes look f []) → C) → C
replaced_alike sizes look s t closed holds f C st go =
    by_value sizes look s [] C st (λ u hu.
    by_value sizes look t [] C st (λ w hw.
    let e : u ≡ w = equal_tells u w ((rel_holds sizes look [] s t u w hu hw Equal).1 holds) in
    let hw' : IsValue sizes look t [] u = subst (λ z. IsValue sizes look t [] z) (sym e) hw in
    go (replaced_holds sizes look s t u (value_closed sizes look s u closed.0 hu) (value_closed sizes look t u closed.1 hw') ⊥ f [])))
