-- The laws, put together.
use Rattle.std.proofs.Common.{◌≡◌, ℕ, zero, suc, ◌+◌, ◌==◌, Bool, true, false, List, [], ◌∷◌, ◌++◌, length, ◌↔◌, refl, sym, ap, ◌∙◌, subst, slice_index_or, arith, append_assoc, length-append, if◌then◌else◌, true≢false, Result, Ok, Err, IfOk}
use Rattle.std.proofs.lemmas.Bool.{eq-eqb, eqb-true}
use Rattle.cb_term.specs.declared.name.Name.{Name}
use Rattle.cb_term.specs.declared.value.Value.{Value}
use Rattle.cb_term.specs.Tree.{TermTree, Var, Bound, FormulaTree}
use Rattle.cb_term.specs.Names.{same_name}
use Rattle.cb_term.specs.Values.{Look, nothing, set_at}
use Rattle.cb_term.specs.Holds.{Holds, IsValue}
use Rattle.cb_term.specs.Closed.{IsClosedTerm}
use Rattle.cb_term.specs.Change.{for_name, for_outermost, name_stays, bound_stays, subst_formula, open_formula}
use Rattle.cb_term.specs.Laws.{TruthIsStable, TermsHaveValues, ValuesAreUnique, FreeNamesDecide, FreeNamesDecideValue, ClosedStandsAlone, ClosedValueStandsAlone, SameHoldAlike, SameHaveSameValue, Fits, ChangeKeepsTruth, ChangeKeepsValue, HoldsAt, HoldsInside}
use Rattle.cb_term.proofs.HoldsLemmas.{holds_stable, by_value, meets_gives}
use Rattle.cb_term.proofs.ValueLemmas.{value_stable}
use Rattle.cb_term.proofs.FreeLemmas.{agree_meets, agree_holds}
use Rattle.cb_term.proofs.ClosedLemmas.{closed_meets, closed_holds, value_closed}
use Rattle.cb_term.proofs.SameLemmas.{same_meets, same_holds}
use Rattle.cb_term.proofs.ChangeLemmas.{mapped_meets, mapped_holds}

pub truth_is_stable : TruthIsStable
truth_is_stable sizes look f env = holds_stable sizes look f env

pub terms_have_values : TermsHaveValues
terms_have_values sizes look t env = λ none. by_value sizes look t env ⊥ (λ h. h (λ e. e)) none

pub values_are_unique : ValuesAreUnique
values_are_unique sizes look t env v w is_v is_w = meets_gives sizes look t env v (λ x. x ≡ w) (value_stable v w) is_v is_w

pub free_names_decide : FreeNamesDecide
free_names_decide sizes look look' f env r = agree_holds sizes look look' ⊥ f env r

pub free_names_decide_value : FreeNamesDecideValue
free_names_decide_value sizes look look' t env v r = agree_meets sizes look look' t env (λ w. w ≡ v) r

pub closed_stands_alone : ClosedStandsAlone
closed_stands_alone sizes look f env env' c = closed_holds sizes look ⊥ f 0 env env' (λ j lt. absurd (omega arith)) c

pub closed_value_stands_alone : ClosedValueStandsAlone
closed_value_stands_alone sizes look t env env' v c = closed_meets sizes look t 0 env env' (λ w. w ≡ v) (λ j lt. absurd (omega arith)) c

pub same_hold_alike : SameHoldAlike
same_hold_alike sizes look f g env s = same_holds sizes look ⊥ f g s env

pub same_have_same_value : SameHaveSameValue
same_have_same_value sizes look t u env v s = same_meets sizes look t u s env (λ w. w ≡ v)

-- ---- a change whose terms fit under any further binders

module _ (sizes : List ℕ) (look look' : Look) (names : ℕ → Name → TermTree) (bounds : ℕ → ℕ → TermTree) where
  abbrev FitsInside : ℕ → List Value → List Value → Type 0
  FitsInside k env env' = (vs : List Value) → Fits sizes look look' names bounds (k + length vs) (vs ++ env) (vs ++ env')

  fits_here : (k : ℕ) (env env' : List Value) → FitsInside k env env' → Fits sizes look look' names bounds k env env'
  fits_here k env env' h = let e : k + 0 ≡ k = omega arith in subst (λ n. Fits sizes look look' names bounds n env env') e (h [])

  fits_more : (k : ℕ) (env env' : List Value) (v : Value) → FitsInside k env env' → FitsInside (k + 1) (v ∷ env) (v ∷ env')
  fits_more k env env' v h vs =
      let ws = vs ++ v ∷ [] in
      let e : k + length ws ≡ k + 1 + length vs = omega (arith, length-append vs (v ∷ [])) in
      subst (λ n. Fits sizes look look' names bounds n (vs ++ v ∷ env) (vs ++ v ∷ env')) e
      (subst (λ a. Fits sizes look look' names bounds (k + length ws) a (vs ++ v ∷ env')) (append_assoc vs (v ∷ []) env)
      (subst (λ a. Fits sizes look look' names bounds (k + length ws) (ws ++ env) a) (append_assoc vs (v ∷ []) env') (h ws)))

pub change_keeps_truth : ChangeKeepsTruth
change_keeps_truth sizes look look' names bounds k env env' f h =
    mapped_holds sizes look look' names bounds (FitsInside sizes look look' names bounds) (fits_more sizes look look' names bounds)
    (λ d y a b r. (fits_here sizes look look' names bounds d a b r).0 y) (λ d j a b r. (fits_here sizes look look' names bounds d a b r).1 j) ⊥ f k env env' h

pub change_keeps_value : ChangeKeepsValue
change_keeps_value sizes look look' names bounds k env env' t v h =
    mapped_meets sizes look look' names bounds (FitsInside sizes look look' names bounds) (fits_more sizes look look' names bounds)
    (λ d y a b r. (fits_here sizes look look' names bounds d a b r).0 y) (λ d j a b r. (fits_here sizes look look' names bounds d a b r).1 j)
    t k env env' (λ w. w ≡ v) h (λ w. value_stable w v)

-- ---- a term for a name, and for the outermost bound variable

lookup_front : (env : List Value) (v : Value) (j : ℕ) → (j ≡ length env → ⊥) → slice_index_or env j nothing ≡ slice_index_or (env ++ v ∷ []) j nothing
lookup_front [] v zero ne = absurd (ne refl)
lookup_front [] v (suc j) ne = refl
lookup_front (e ∷ env) v zero ne = refl
lookup_front (e ∷ env) v (suc j) ne = lookup_front env v j (λ e'. ne (ap suc e'))

lookup_last : (env : List Value) (v : Value) (j : ℕ) → j ≡ length env → v ≡ slice_index_or (env ++ v ∷ []) j nothing
lookup_last [] v zero e = refl
lookup_last [] v (suc j) e = absurd (omega (arith, e))
lookup_last (x ∷ env) v zero e = absurd (omega (arith, e))
lookup_last (x ∷ env) v (suc j) e = lookup_last env v j (omega (arith, e))

eqb_no : (j k : ℕ) → (j == k) ≡ false → j ≡ k → ⊥
eqb_no j k e same = true≢false (sym (eq-eqb j k same) ∙ e)

module _ (sizes : List ℕ) (look : Look) (t : TermTree) (v : Value) (closed : IsClosedTerm 0 t) (is : IsValue sizes look t [] v) where
  at_name : (x y : Name) (env : List Value) (b : Bool) → IsValue sizes look (if b then t else Var y) env (if b then v else look y)
  at_name x y env true = value_closed sizes look t v closed is env
  at_name x y env false = refl

  -- a formula with t for x holds where the formula holds with t's value at x
  pub holds_subst : (x : Name) (f : FormulaTree) (env : List Value) → Holds sizes look (subst_formula x t f) env ↔ Holds sizes (set_at look x v) f env
  holds_subst x f env = mapped_holds sizes look (set_at look x v) (for_name x t) bound_stays (λ k a b. a ≡ b)
      (λ k a b w e. ap (λ z. w ∷ z) e) (λ k y a b e. at_name x y a (same_name y x)) (λ k j a b e. ap (λ z. slice_index_or z j nothing) e) ⊥ f 0 env env refl

  at_outermost : (k j : ℕ) (env : List Value) → length env ≡ k → (b : Bool) → (b ≡ true → j ≡ k) → (b ≡ false → j ≡ k → ⊥) →
      IsValue sizes look (if b then t else Bound j) env (slice_index_or (env ++ v ∷ []) j nothing)
  at_outermost k j env e true same other =
      subst (λ u. IsValue sizes look t env u) (lookup_last env v j (same refl ∙ sym e)) (value_closed sizes look t v closed is env)
  at_outermost k j env e false same other = lookup_front env v j (λ e'. other refl (e' ∙ e))

  -- a formula with t for its loose variable holds where the formula holds with t's value for it
  pub holds_open : (f : FormulaTree) → Holds sizes look (open_formula t f) [] ↔ Holds sizes look f (v ∷ [])
  holds_open f = mapped_holds sizes look look name_stays (for_outermost t) (λ k a b. (length a ≡ k) × (b ≡ a ++ v ∷ []))
      (λ k a b w r. (omega (arith, r.0), ap (λ z. w ∷ z) r.1)) (λ k y a b r. refl)
      (λ k j a b r. subst (λ z. IsValue sizes look (for_outermost t k j) a (slice_index_or z j nothing)) (sym r.1)
      (at_outermost k j a r.0 (j == k) (eqb-true j k) (eqb_no j k))) ⊥ f 0 [] (v ∷ []) (refl, refl)

pub law_at_name : {E : Type 0} (r : Result FormulaTree E) (x : Name) (t : TermTree) (f : FormulaTree) →
    IfOk r (λ g. g ≡ subst_formula x t f) → IfOk r (λ g. HoldsAt g x t f)
law_at_name (Ok g) x t f e = λ sizes look env v closed is.
    subst (λ h. Holds sizes look h env ↔ Holds sizes (set_at look x v) f env) (sym e) (holds_subst sizes look t v closed is x f env)
law_at_name (Err _) x t f e = tt

pub law_inside : {E : Type 0} (r : Result FormulaTree E) (t : TermTree) (f : FormulaTree) →
    IfOk r (λ g. g ≡ open_formula t f) → IfOk r (λ g. HoldsInside g t f)
law_inside (Ok g) t f e = λ sizes look v closed is.
    subst (λ h. Holds sizes look h [] ↔ Holds sizes look f (v ∷ [])) (sym e) (holds_open sizes look t v closed is f)
law_inside (Err _) t f e = tt
