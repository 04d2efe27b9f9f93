-- The rules on connectives and booleans are sound.
use Rattle.std.proofs.Common.{◌≡◌, ℕ, ◌&&◌, Bool, true, false, List, [], ◌∷◌, Option, Some, None, refl, sym, subst, ℤ, ◌↔◌, true≢false}
use Rattle.std.specs.Prelude.{is_some}
use Rattle.std.specs.Ordering.{int_eq}
use Rattle.std.proofs.lemmas.Bool.{and_parts, and_from, eq-eqb}
use Rattle.std.proofs.lemmas.Option.{same_Some}
use Rattle.cb_term.specs.declared.kind.Kind.{Kind}
use Rattle.cb_term.specs.declared.kind.Kind.TheVariants as kind
use Rattle.cb_term.specs.declared.sign.RelSign.TheVariants.{Equal, Subset}
use Rattle.cb_term.specs.declared.value.Value.{Value}
use Rattle.cb_term.specs.declared.value.Value.TheVariants as value
use Rattle.cb_term.specs.Tree.{TermTree, Truth, Test, FormulaTree, False, Rel, Not, And, Or, Implies, Iff}
use Rattle.cb_term.specs.Sets.{has, is_subset}
use Rattle.cb_term.specs.Values.{Look, IsOf, rel}
use Rattle.cb_term.specs.Holds.{Holds, IsValue}
use Rattle.cb_term.proofs.FreeLemmas.{or_left, or_right}
use Rattle.cb_term.proofs.HoldsLemmas.{holds_stable, by_truth, by_value}
use Rattle.cb_term.proofs.SameLemmas.{same_meets, same_holds}
use Rattle.cb_term.proofs.ValueLemmas.{same_truth_tells, same_items_tells}
use Rattle.cb_seq.specs.declared.rule.FormulaArgument.{FormulaArgument}
use Rattle.cb_seq.specs.declared.rule.FormulaArgument.TheVariants as formula
use Rattle.cb_seq.specs.declared.rule.TermArgument.{TermArgument}
use Rattle.cb_seq.specs.declared.rule.TermArgument.TheVariants as term
use Rattle.cb_seq.specs.declared.rule.Rule.{Rule}
use Rattle.cb_seq.specs.declared.rule.Rule.TheVariants as rule
use Rattle.cb_seq.specs.declared.premise.Premise.{Premise}
use Rattle.cb_seq.specs.Kinds.{kind_of, fits, Gives, both_fit, rel_kinds, common_set}
use Rattle.cb_seq.specs.Arguments.{formula_fits, term_fits}
use Rattle.cb_seq.specs.Validity.{Claim, AllHold, AllFit, Kinded}
use Rattle.cb_seq.specs.Premises.{hypothesis, or_goal, Carry, Sound}
use Rattle.cb_seq.proofs.KindLemmas.{both_true, test_some}
use Rattle.cb_seq.proofs.KindSound.{IsSetKind}
use Rattle.cb_seq.proofs.SetLemmas.{eq_self}
use Rattle.cb_seq.proofs.PremiseLemmas.{only_tells, hypothesis_holds, hypothesis_fits, adds_valid, adds_kinded, added, is_kind_tells, valued, set_valued, rel_holds}
use Rattle.cb_check_logic.specs.LogicRules as spec
use Rattle.cb_check_logic.specs.LogicRules.{is_truth, test_says, logic_premises}

no_premises : {A : Type 0} {x : A} → None ≡ Some x → ⊥
no_premises e = cc

not_so : false ≡ true → ⊥
not_so e = true≢false (sym e)

-- ---- values

all_in : (ys xs : List ℤ) → ((z : ℤ) → has xs z ≡ true → has ys z ≡ true) → is_subset xs ys ≡ true
all_in ys [] h = refl
all_in ys (x ∷ xs) h = and_from _ _ (h x (or_left _ _ (eq_self x))) (all_in ys xs (λ z e. h z (or_right (int_eq x z) (has xs z) e)))

bit_self : (b : Bool) → rel Equal (value.Truth b) (value.Truth b) ≡ true
bit_self true = refl
bit_self false = refl

equal_self : (v : Value) → rel Equal v v ≡ true
equal_self (value.Int x) = eq_self x
equal_self (value.Truth b) = bit_self b
equal_self (value.Elem k) = eq-eqb k k refl
equal_self (value.Set xs) = (same_items_tells xs xs).1 refl

by_bool : (sizes : List ℕ) (v : Value) → IsOf sizes kind.Truth v → (P : Value → Type 0) → ((b : Bool) → P (value.Truth b)) → P v
by_bool sizes (value.Truth b) i P go = go b
by_bool sizes v i P go = absurd i

is_set : (sizes : List ℕ) (k l : Kind) → is_some (common_set k l) ≡ true → IsSetKind sizes k
is_set sizes (kind.SetOf b) l e = tt
is_set sizes kind.EmptySet l e = tt
is_set sizes k l e = absurd (not_so e)

-- an equation with a truth value says what its rule makes of it
says_iff : (sizes : List ℕ) (look : Look) (f : FormulaTree) (b : Bool) → Holds sizes look (test_says f b) [] ↔ Holds sizes look (is_truth (Test f) b) []
says_iff sizes look f true = (
  (λ h c e. subst (λ z. rel Equal (value.Truth z) (value.Truth true) ≡ true) (sym (e.1 h)) refl),
  (λ h. holds_stable sizes look f [] (λ n. n (by_truth {A = Holds sizes look f []} {C = Holds sizes look f []} (holds_stable sizes look f []) (λ b e. e.0 (same_truth_tells b true (h b e)))))),
)
says_iff sizes look f false = (
  (λ n c e. no c (λ t. n (e.0 t))),
  (λ h yes. true≢false (same_truth_tells true false (h true ((λ _. yes), (λ _. refl))))),
)
  where
    no : (c : Bool) → (c ≡ true → ⊥) → rel Equal (value.Truth c) (value.Truth false) ≡ true
    no true n = absurd (n refl)
    no false n = refl

module _ (sizes : List ℕ) (q : Claim) (kinded : Kinded sizes q) where
  abbrev Fits : FormulaTree → Type 0
  Fits f = fits sizes q.names [] f ≡ true

  abbrev AllFits : List FormulaTree → Type 0
  AllFits fs = AllFit sizes q.names fs

  abbrev H : Look → FormulaTree → Type 0
  H look f = Holds sizes look f []

  -- what a valid premise with this goal and these further hypotheses tells
  abbrev Tells : Look → Option FormulaTree → List FormulaTree → Type 0
  Tells look g fs = AllHold sizes look fs → H look (or_goal q.goal g)

  -- no premise
  closes : ((look : Look) → Gives sizes look q.names → AllHold sizes look q.hypotheses → H look q.goal) → Carry sizes q []
  closes go = (tt, (λ w look gives hyps. go look gives hyps))

  one : (g : Option FormulaTree) (fs : List FormulaTree) → Fits (or_goal q.goal g) → AllFits fs →
      ((look : Look) → AllHold sizes look q.hypotheses → Tells look g fs → H look q.goal) → Carry sizes q (added sizes q g fs ∷ [])
  one g fs fit more go = (
    (adds_kinded sizes q g fs kinded fit more, tt),
    (λ w look gives hyps. go look hyps (adds_valid sizes q g fs w.0 look gives hyps)),
  )

  two : (g : Option FormulaTree) (fs : List FormulaTree) (g' : Option FormulaTree) (fs' : List FormulaTree) → Fits (or_goal q.goal g) → AllFits fs → Fits (or_goal q.goal g') → AllFits fs' →
      ((look : Look) → Gives sizes look q.names → AllHold sizes look q.hypotheses → Tells look g fs → Tells look g' fs' → H look q.goal) → Carry sizes q (added sizes q g fs ∷ added sizes q g' fs' ∷ [])
  two g fs g' fs' fit more fit' more' go = (
    (adds_kinded sizes q g fs kinded fit more, (adds_kinded sizes q g' fs' kinded fit' more', tt)),
    (λ w look gives hyps. go look gives hyps (adds_valid sizes q g fs w.0 look gives hyps) (adds_valid sizes q g' fs' w.1.0 look gives hyps)),
  )

  hypothesis_is : (h : ℕ) (f : FormulaTree) → hypothesis q.hypotheses h ≡ Some f → Fits f × ((look : Look) → AllHold sizes look q.hypotheses → H look f)
  hypothesis_is h f e = (hypothesis_fits sizes q.names q.hypotheses h f e kinded.hypotheses, (λ look hyps. hypothesis_holds sizes look q.hypotheses h f e hyps))

  parts : (f g : FormulaTree) → (fits sizes q.names [] f && fits sizes q.names [] g) ≡ true → Fits f × Fits g
  parts f g e = let p = and_parts (fits sizes q.names [] f) (fits sizes q.names [] g) e in (p.0, p.1)

  -- what cannot fail is the goal
  classic : (look : Look) → ¬ ¬ H look q.goal → H look q.goal
  classic look = holds_stable sizes look q.goal []

  -- ---- rules without premises

  hyp_sound : (h : ℕ) (ps : List Premise) → logic_premises sizes (rule.Hyp h) q ≡ Some ps → Carry sizes q ps
  hyp_sound h ps e = let p = only_tells (spec.is_goal q.goal (hypothesis q.hypotheses h)) [] ps e in subst (Carry sizes q) p.1 (by_formula (hypothesis q.hypotheses h) refl p.0)
    where
      by_formula : (o : Option FormulaTree) → hypothesis q.hypotheses h ≡ o → spec.is_goal q.goal o ≡ true → Carry sizes q []
      by_formula None i s = absurd (not_so s)
      by_formula (Some f) i s = closes (λ look gives hyps. (same_holds sizes look ⊥ f q.goal s []).0 ((hypothesis_is h f i).1 look hyps))

  contra_sound : (h j : ℕ) (ps : List Premise) → logic_premises sizes (rule.Contra h j) q ≡ Some ps → Carry sizes q ps
  contra_sound h j ps e =
      let p = only_tells (spec.is_negation (hypothesis q.hypotheses h) (hypothesis q.hypotheses j)) [] ps e in
      subst (Carry sizes q) p.1 (by_formula (hypothesis q.hypotheses h) (hypothesis q.hypotheses j) refl refl p.0)
    where
      by_formula : (o n : Option FormulaTree) → hypothesis q.hypotheses h ≡ o → hypothesis q.hypotheses j ≡ n → spec.is_negation o n ≡ true → Carry sizes q []
      by_formula (Some f) (Some (Not g)) i k s =
          closes (λ look gives hyps. absurd ((hypothesis_is j (Not g) k).1 look hyps ((same_holds sizes look ⊥ f g s []).0 ((hypothesis_is h f i).1 look hyps))))
      by_formula o n i k s = absurd (not_so s)

  refl_sound : (ps : List Premise) → logic_premises sizes rule.Refl q ≡ Some ps → Carry sizes q ps
  refl_sound ps e = let p = only_tells (spec.is_reflexive q.goal) [] ps e in subst (Carry sizes q) p.1 (by_goal q.goal refl p.0)
    where
      by_goal : (g : FormulaTree) → q.goal ≡ g → spec.is_reflexive g ≡ true → Carry sizes q []
      by_goal (Rel Equal s t) i a = closes (λ look gives hyps. subst (H look) (sym i) (by_value sizes look s [] (H look (Rel Equal s t)) (holds_stable sizes look (Rel Equal s t) [])
          (λ v hv. (rel_holds sizes look [] s t v v hv ((same_meets sizes look s t a [] (λ w. w ≡ v)).0 hv) Equal).0 (equal_self v))))
      by_goal (Rel Subset s t) i a =
          let ks = both_true (rel_kinds Subset) (kind_of sizes q.names [] s) (kind_of sizes q.names [] t) (subst Fits i kinded.goal) in
          closes (λ look gives hyps. subst (H look) (sym i) (set_valued sizes look q.names gives s ks.0 ks.2 (is_set sizes ks.0 ks.1 ks.4)
          (H look (Rel Subset s t)) (holds_stable sizes look (Rel Subset s t) []) (λ xs hx of_k.
          (rel_holds sizes look [] s t (value.Set xs) (value.Set xs) hx ((same_meets sizes look s t a [] (λ w. w ≡ value.Set xs)).0 hx) Subset).0 (all_in xs xs (λ z e. e)))))
      by_goal g i a = absurd (not_so a)

  -- ---- a formula that is given

  cut_sound : (a : FormulaArgument) (ps : List Premise) → formula_fits sizes q.names a ≡ true → spec.cut a ≡ Some ps → Carry sizes q ps
  cut_sound formula.Unclear ps fit e = absurd (no_premises e)
  cut_sound (formula.Formula f) ps fit e = subst (Carry sizes q) (same_Some _ ps e)
      (two (Some f) [] None (f ∷ []) (and_parts _ _ fit).1 tt kinded.goal ((and_parts _ _ fit).1, tt) (λ look gives hyps first second. second (first tt, tt)))

  cases_sound : (a : FormulaArgument) (ps : List Premise) → formula_fits sizes q.names a ≡ true → spec.cases a ≡ Some ps → Carry sizes q ps
  cases_sound formula.Unclear ps fit e = absurd (no_premises e)
  cases_sound (formula.Formula f) ps fit e = subst (Carry sizes q) (same_Some _ ps e)
      (two None (f ∷ []) None (Not f ∷ []) kinded.goal ((and_parts _ _ fit).1, tt) kinded.goal ((and_parts _ _ fit).1, tt) (λ look gives hyps first second.
      classic look (λ no. no (second ((λ holds. no (first (holds, tt))), tt)))))

  -- ---- the goal

  and_right_sound : (ps : List Premise) → spec.and_right q.goal ≡ Some ps → Carry sizes q ps
  and_right_sound ps e = by_goal q.goal refl e
    where
      by_goal : (g : FormulaTree) → q.goal ≡ g → spec.and_right g ≡ Some ps → Carry sizes q ps
      by_goal (And f g) i e =
          let fit = parts f g (subst Fits i kinded.goal) in
          subst (Carry sizes q) (same_Some _ ps e) (two (Some f) [] (Some g) [] fit.0 tt fit.1 tt (λ look gives hyps first second. subst (H look) (sym i) (first tt, second tt)))
      by_goal g i e = absurd (no_premises e)

  or_first_sound : (ps : List Premise) → spec.or_first q.goal ≡ Some ps → Carry sizes q ps
  or_first_sound ps e = by_goal q.goal refl e
    where
      by_goal : (g : FormulaTree) → q.goal ≡ g → spec.or_first g ≡ Some ps → Carry sizes q ps
      by_goal (Or f g) i e =
          let fit = parts f g (subst Fits i kinded.goal) in
          subst (Carry sizes q) (same_Some _ ps e) (one (Some f) [] fit.0 tt (λ look hyps first. subst (H look) (sym i) (λ no. no.0 (first tt))))
      by_goal g i e = absurd (no_premises e)

  or_second_sound : (ps : List Premise) → spec.or_second q.goal ≡ Some ps → Carry sizes q ps
  or_second_sound ps e = by_goal q.goal refl e
    where
      by_goal : (g : FormulaTree) → q.goal ≡ g → spec.or_second g ≡ Some ps → Carry sizes q ps
      by_goal (Or f g) i e =
          let fit = parts f g (subst Fits i kinded.goal) in
          subst (Carry sizes q) (same_Some _ ps e) (one (Some g) [] fit.1 tt (λ look hyps first. subst (H look) (sym i) (λ no. no.1 (first tt))))
      by_goal g i e = absurd (no_premises e)

  implies_right_sound : (ps : List Premise) → spec.implies_right q.goal ≡ Some ps → Carry sizes q ps
  implies_right_sound ps e = by_goal q.goal refl e
    where
      by_goal : (g : FormulaTree) → q.goal ≡ g → spec.implies_right g ≡ Some ps → Carry sizes q ps
      by_goal (Implies f g) i e =
          let fit = parts f g (subst Fits i kinded.goal) in
          subst (Carry sizes q) (same_Some _ ps e) (one (Some g) (f ∷ []) fit.1 (fit.0, tt) (λ look hyps first. subst (H look) (sym i) (λ holds. first (holds, tt))))
      by_goal g i e = absurd (no_premises e)

  not_right_sound : (ps : List Premise) → spec.not_right q.goal ≡ Some ps → Carry sizes q ps
  not_right_sound ps e = by_goal q.goal refl e
    where
      by_goal : (g : FormulaTree) → q.goal ≡ g → spec.not_right g ≡ Some ps → Carry sizes q ps
      by_goal (Not f) i e =
          let fit : Fits f = subst Fits i kinded.goal in
          subst (Carry sizes q) (same_Some _ ps e) (one (Some False) (f ∷ []) refl (fit, tt) (λ look hyps first. subst (H look) (sym i) (λ holds. first (holds, tt))))
      by_goal g i e = absurd (no_premises e)

  iff_right_sound : (ps : List Premise) → spec.iff_right q.goal ≡ Some ps → Carry sizes q ps
  iff_right_sound ps e = by_goal q.goal refl e
    where
      by_goal : (g : FormulaTree) → q.goal ≡ g → spec.iff_right g ≡ Some ps → Carry sizes q ps
      by_goal (Iff f g) i e =
          let fit = parts f g (subst Fits i kinded.goal) in
          subst (Carry sizes q) (same_Some _ ps e) (two (Some g) (f ∷ []) (Some f) (g ∷ []) fit.1 (fit.0, tt) fit.0 (fit.1, tt) (λ look gives hyps first second.
          subst (H look) (sym i) ((λ holds. first (holds, tt)), (λ holds. second (holds, tt)))))
      by_goal g i e = absurd (no_premises e)

  -- ---- a hypothesis

  and_left_sound : (h : ℕ) (ps : List Premise) → spec.and_left (hypothesis q.hypotheses h) ≡ Some ps → Carry sizes q ps
  and_left_sound h ps e = by_formula (hypothesis q.hypotheses h) refl e
    where
      by_formula : (o : Option FormulaTree) → hypothesis q.hypotheses h ≡ o → spec.and_left o ≡ Some ps → Carry sizes q ps
      by_formula (Some (And f g)) i e =
          let is = hypothesis_is h (And f g) i in
          let fit = parts f g is.0 in
          subst (Carry sizes q) (same_Some _ ps e) (one None (f ∷ g ∷ []) kinded.goal (fit.0, (fit.1, tt)) (λ look hyps first. let both = is.1 look hyps in first (both.0, (both.1, tt))))
      by_formula o i e = absurd (no_premises e)

  or_left_sound : (h : ℕ) (ps : List Premise) → spec.or_left (hypothesis q.hypotheses h) ≡ Some ps → Carry sizes q ps
  or_left_sound h ps e = by_formula (hypothesis q.hypotheses h) refl e
    where
      by_formula : (o : Option FormulaTree) → hypothesis q.hypotheses h ≡ o → spec.or_left o ≡ Some ps → Carry sizes q ps
      by_formula (Some (Or f g)) i e =
          let is = hypothesis_is h (Or f g) i in
          let fit = parts f g is.0 in
          subst (Carry sizes q) (same_Some _ ps e) (two None (f ∷ []) None (g ∷ []) kinded.goal (fit.0, tt) kinded.goal (fit.1, tt) (λ look gives hyps first second.
          classic look (λ no. is.1 look hyps ((λ holds. no (first (holds, tt))), (λ holds. no (second (holds, tt)))))))
      by_formula o i e = absurd (no_premises e)

  implies_left_sound : (h : ℕ) (ps : List Premise) → spec.implies_left (hypothesis q.hypotheses h) ≡ Some ps → Carry sizes q ps
  implies_left_sound h ps e = by_formula (hypothesis q.hypotheses h) refl e
    where
      by_formula : (o : Option FormulaTree) → hypothesis q.hypotheses h ≡ o → spec.implies_left o ≡ Some ps → Carry sizes q ps
      by_formula (Some (Implies f g)) i e =
          let is = hypothesis_is h (Implies f g) i in
          let fit = parts f g is.0 in
          subst (Carry sizes q) (same_Some _ ps e) (two (Some f) [] None (g ∷ []) fit.0 tt kinded.goal (fit.1, tt) (λ look gives hyps first second. second (is.1 look hyps (first tt), tt)))
      by_formula o i e = absurd (no_premises e)

  iff_left_sound : (h : ℕ) (ps : List Premise) → spec.iff_left (hypothesis q.hypotheses h) ≡ Some ps → Carry sizes q ps
  iff_left_sound h ps e = by_formula (hypothesis q.hypotheses h) refl e
    where
      by_formula : (o : Option FormulaTree) → hypothesis q.hypotheses h ≡ o → spec.iff_left o ≡ Some ps → Carry sizes q ps
      by_formula (Some (Iff f g)) i e =
          let is = hypothesis_is h (Iff f g) i in
          let fit = parts f g is.0 in
          subst (Carry sizes q) (same_Some _ ps e) (one None (Implies f g ∷ Implies g f ∷ []) kinded.goal (is.0, (and_from _ _ fit.1 fit.0, tt)) (λ look hyps first.
          let both = is.1 look hyps in first (both.0, (both.1, tt))))
      by_formula o i e = absurd (no_premises e)

  not_left_sound : (h : ℕ) (ps : List Premise) → spec.not_left (hypothesis q.hypotheses h) ≡ Some ps → Carry sizes q ps
  not_left_sound h ps e = by_formula (hypothesis q.hypotheses h) refl e
    where
      by_formula : (o : Option FormulaTree) → hypothesis q.hypotheses h ≡ o → spec.not_left o ≡ Some ps → Carry sizes q ps
      by_formula (Some (Not f)) i e =
          let is = hypothesis_is h (Not f) i in
          subst (Carry sizes q) (same_Some _ ps e) (one (Some f) [] is.0 tt (λ look hyps first. absurd (is.1 look hyps (first tt))))
      by_formula o i e = absurd (no_premises e)

  -- ---- booleans

  bool_cases_sound : (a : TermArgument) (ps : List Premise) → term_fits sizes q.names a ≡ true → spec.bool_cases a ≡ Some ps → Carry sizes q ps
  bool_cases_sound (term.Term t kind.Truth) ps fit e =
      let et = is_kind_tells _ kind.Truth (kind_of sizes q.names [] t) fit in
      let fit_at : (b : Bool) → Fits (is_truth t b) = λ b. subst (λ o. both_fit (rel_kinds Equal) o (Some kind.Truth) ≡ true) (sym et) refl in
      subst (Carry sizes q) (same_Some _ ps e) (two None (is_truth t true ∷ []) None (is_truth t false ∷ []) kinded.goal (fit_at true, tt) kinded.goal (fit_at false, tt) (λ look gives hyps first second.
      valued sizes look q.names gives t kind.Truth et (H look q.goal) (classic look) (λ v hv of_truth.
      by_bool sizes v of_truth (λ z. IsValue sizes look t [] z → H look q.goal) (by_value_of t look first second) hv)))
    where
      by_value_of : (t : TermTree) (look : Look) → Tells look None (is_truth t true ∷ []) → Tells look None (is_truth t false ∷ []) → (b : Bool) → IsValue sizes look t [] (value.Truth b) → H look q.goal
      by_value_of t look first second true hv = first ((rel_holds sizes look [] t (Truth true) (value.Truth true) (value.Truth true) hv refl Equal).0 refl, tt)
      by_value_of t look first second false hv = second ((rel_holds sizes look [] t (Truth false) (value.Truth false) (value.Truth false) hv refl Equal).0 refl, tt)
  bool_cases_sound a ps fit e = absurd (no_premises e)

  -- what is told of a formula that stands in a formula that fits, fits
  says_fits : (f : FormulaTree) (b : Bool) → Fits (is_truth (Test f) b) → Fits (test_says f b)
  says_fits f b fit =
      let ks = both_true (rel_kinds Equal) (kind_of sizes q.names [] (Test f)) (Some kind.Truth) fit in
      by b (test_some (fits sizes q.names [] f) kind.Truth ks.0 ks.2).0
    where
      by : (b : Bool) → Fits f → Fits (test_says f b)
      by true e = e
      by false e = e

  bool_right_sound : (ps : List Premise) → spec.bool_right q.goal ≡ Some ps → Carry sizes q ps
  bool_right_sound ps e = by_goal q.goal refl e
    where
      by_goal : (g : FormulaTree) → q.goal ≡ g → spec.bool_right g ≡ Some ps → Carry sizes q ps
      by_goal (Rel Equal (Test f) (Truth b)) i e = subst (Carry sizes q) (same_Some _ ps e) (one (Some (test_says f b)) [] (says_fits f b (subst Fits i kinded.goal)) tt
          (λ look hyps first. subst (H look) (sym i) ((says_iff sizes look f b).0 (first tt))))
      by_goal g i e = absurd (no_premises e)

  bool_left_sound : (h : ℕ) (ps : List Premise) → spec.bool_left (hypothesis q.hypotheses h) ≡ Some ps → Carry sizes q ps
  bool_left_sound h ps e = by_formula (hypothesis q.hypotheses h) refl e
    where
      by_formula : (o : Option FormulaTree) → hypothesis q.hypotheses h ≡ o → spec.bool_left o ≡ Some ps → Carry sizes q ps
      by_formula (Some (Rel Equal (Test f) (Truth b))) i e =
          let is = hypothesis_is h (Rel Equal (Test f) (Truth b)) i in
          subst (Carry sizes q) (same_Some _ ps e) (one None (test_says f b ∷ []) kinded.goal (says_fits f b is.0, tt) (λ look hyps first. first ((says_iff sizes look f b).1 (is.1 look hyps), tt)))
      by_formula o i e = absurd (no_premises e)

pub logic_rule_sound : (sizes : List ℕ) (r : Rule) → Sound sizes (logic_premises sizes) r
logic_rule_sound sizes (rule.Hyp h) q ps e fit k = hyp_sound sizes q k h ps e
logic_rule_sound sizes (rule.Contra h j) q ps e fit k = contra_sound sizes q k h j ps e
logic_rule_sound sizes rule.Refl q ps e fit k = refl_sound sizes q k ps e
logic_rule_sound sizes (rule.Cut f) q ps e fit k = cut_sound sizes q k f ps fit e
logic_rule_sound sizes (rule.Cases f) q ps e fit k = cases_sound sizes q k f ps fit e
logic_rule_sound sizes rule.AndR q ps e fit k = and_right_sound sizes q k ps e
logic_rule_sound sizes rule.Or1 q ps e fit k = or_first_sound sizes q k ps e
logic_rule_sound sizes rule.Or2 q ps e fit k = or_second_sound sizes q k ps e
logic_rule_sound sizes rule.ImpR q ps e fit k = implies_right_sound sizes q k ps e
logic_rule_sound sizes rule.NotR q ps e fit k = not_right_sound sizes q k ps e
logic_rule_sound sizes rule.IffR q ps e fit k = iff_right_sound sizes q k ps e
logic_rule_sound sizes (rule.AndL h) q ps e fit k = and_left_sound sizes q k h ps e
logic_rule_sound sizes (rule.OrL h) q ps e fit k = or_left_sound sizes q k h ps e
logic_rule_sound sizes (rule.ImpL h) q ps e fit k = implies_left_sound sizes q k h ps e
logic_rule_sound sizes (rule.IffL h) q ps e fit k = iff_left_sound sizes q k h ps e
logic_rule_sound sizes (rule.NotL h) q ps e fit k = not_left_sound sizes q k h ps e
logic_rule_sound sizes (rule.BoolCases t) q ps e fit k = bool_cases_sound sizes q k t ps fit e
logic_rule_sound sizes rule.BoolR q ps e fit k = bool_right_sound sizes q k ps e
logic_rule_sound sizes (rule.BoolL h) q ps e fit k = bool_left_sound sizes q k h ps e
logic_rule_sound sizes r q ps e fit k = absurd (no_premises e)
