-- The rules on numbers and on evaluation are sound.
use Rattle.std.proofs.Common.{◌≡◌, ℕ, ◌<◌, ℤ, pos, negsuc, ◌*ℤ◌, int_le, int_lt, Bool, true, false, ◌&&◌, List, [], ◌∷◌, Option, Some, None, refl, sym, ap, ap₂, ◌∙◌, subst, arith, if◌then◌else◌, true≢false}
use Rattle.std.specs.Ordering.{int_eq}
use Rattle.std.specs.Int.{int_div_euclid, int_rem_euclid}
use Rattle.std.proofs.lemmas.Bool.{and_parts, and_from}
use Rattle.std.proofs.lemmas.Bool.Decides.{Decides-int_eq}
use Rattle.std.proofs.lemmas.Int.{ints}
use Rattle.std.proofs.lemmas.Option.{same_Some}
use Rattle.cb_term.specs.declared.kind.Kind.{Kind}
use Rattle.cb_term.specs.declared.kind.Kind.TheVariants as kind
use Rattle.cb_term.specs.declared.kind.Base.TheVariants as base
use Rattle.cb_term.specs.declared.sign.TermSign.{TermSign}
use Rattle.cb_term.specs.declared.sign.TermSign.TheVariants.{Add, Mul, Div, Mod, Range}
use Rattle.cb_term.specs.declared.sign.RelSign.{RelSign}
use Rattle.cb_term.specs.declared.sign.RelSign.TheVariants.{Equal, Less, AtMost, Member}
use Rattle.cb_term.specs.declared.value.Value.{Value}
use Rattle.cb_term.specs.declared.value.Value.TheVariants as value
use Rattle.cb_term.specs.Tree.{TermTree, Num, Bin, FormulaTree, Rel, And}
use Rattle.cb_term.specs.Values.{Look}
use Rattle.cb_term.specs.Holds.{Holds, IsValue}
use Rattle.cb_term.proofs.HoldsLemmas.{IsStable, holds_stable}
use Rattle.cb_eval.specs.ClosedTruth.{closed_truth}
use Rattle.cb_eval.proofs.SoundLemmas.{closed_sound}
use Rattle.cb_eval.proofs.SetLemmas.{range_test}
use Rattle.cb_seq.specs.declared.rule.TermArgument.{TermArgument}
use Rattle.cb_seq.specs.declared.rule.TermArgument.TheVariants as term
use Rattle.cb_seq.specs.declared.rule.Multiple.{Multiple}
use Rattle.cb_seq.specs.declared.rule.Rule.{Rule}
use Rattle.cb_seq.specs.declared.rule.Rule.TheVariants as rule
use Rattle.cb_seq.specs.declared.premise.Premise.{Premise}
use Rattle.cb_seq.specs.Kinds.{kind_of, fits, Gives, rel_kinds, bin_kind, both_kinds, both_fit}
use Rattle.cb_seq.specs.Arguments.{term_fits}
use Rattle.cb_seq.specs.Validity.{Claim, AllHold, AllFit, Kinded}
use Rattle.cb_seq.specs.Premises.{hypothesis, proving, adding, premise_of, Carry, Sound}
use Rattle.cb_seq.proofs.KindLemmas.{both_true, both_some}
use Rattle.cb_seq.proofs.SetLemmas.{other_way}
use Rattle.cb_seq.proofs.PremiseLemmas.{only_tells, hypothesis_holds, hypothesis_fits, adds_valid, adds_kinded, is_kind_tells, int_valued, bin_value, rel_holds}
use Rattle.cb_check_numbers.specs.Linear.{is_integer, rows_taken, multipliers, refuted_by, linear_sum}
use Rattle.cb_check_numbers.specs.NumberRules.{evaluated, refuted, evaluated_not, split, equal_at_most, range_right, range_left, quotient_facts, div_mod, mul_sign, number_premises}
use Rattle.cb_check_numbers.proofs.NumberFacts.{le_true, true_le, lt_true, true_lt, product_at_least, quotient_law, rest_low, rest_high}
use Rattle.cb_check_numbers.proofs.LinearSound.{integer_tells, equated, linear_holds}

no_premises : {A : Type 0} {x : A} → None ≡ Some x → ⊥
no_premises e = cc

not_so : false ≡ true → ⊥
not_so e = true≢false (sym e)

if_true : (b : Bool) (u v : Value) → b ≡ true → (if b then u else v) ≡ u
if_true true u v e = refl
if_true false u v e = absurd (not_so e)

-- a set of numbers has numbers as items
range_set : (k l m : Kind) → bin_kind Range k l ≡ Some m → (k ≡ kind.Integer) × (l ≡ kind.Integer) × ((j : Kind) → rel_kinds Member j m ≡ true → j ≡ kind.Integer)
range_set kind.Integer kind.Integer m e = (refl, refl, (λ j i. item j (subst (λ z. rel_kinds Member j z ≡ true) (sym (same_Some _ _ e)) i)))
  where
    item : (j : Kind) → rel_kinds Member j (kind.SetOf base.Integer) ≡ true → j ≡ kind.Integer
    item kind.Integer i = refl
    item j i = absurd (not_so i)
range_set k l m e = absurd (no_premises e)

module _ (sizes : List ℕ) (q : Claim) (kinded : Kinded sizes q) where
  abbrev Fits : FormulaTree → Type 0
  Fits f = fits sizes q.names [] f ≡ true

  abbrev H : Look → FormulaTree → Type 0
  H look f = Holds sizes look f []

  abbrev Has : TermTree → Kind → Type 0
  Has t k = kind_of sizes q.names [] t ≡ Some k

  rel_fits : (sign : RelSign) (s t : TermTree) → Has s kind.Integer → Has t kind.Integer → rel_kinds sign kind.Integer kind.Integer ≡ true → Fits (Rel sign s t)
  rel_fits sign s t e f g = ap₂ (both_fit (rel_kinds sign)) e f ∙ g

  -- no premise is left
  closes : (ps : List Premise) → [] ≡ ps → ((look : Look) → Gives sizes look q.names → AllHold sizes look q.hypotheses → H look q.goal) → Carry sizes q ps
  closes ps e go = subst (Carry sizes q) e (tt, (λ w look gives hyps. go look gives hyps))

  proves_kinded : (f : FormulaTree) → Fits f → Kinded sizes (premise_of q (proving f))
  proves_kinded f fit = adds_kinded sizes q (Some f) [] kinded fit tt

  adds_all_kinded : (fs : List FormulaTree) → AllFit sizes q.names fs → Kinded sizes (premise_of q (adding fs))
  adds_all_kinded fs fit = adds_kinded sizes q None fs kinded kinded.goal fit

  -- ---- evaluation

  evaluated_sound : (ps : List Premise) → evaluated (closed_truth sizes q.goal) ≡ Some ps → Carry sizes q ps
  evaluated_sound ps e = by (closed_truth sizes q.goal) refl e
    where
      by : (o : Option Bool) → closed_truth sizes q.goal ≡ o → evaluated o ≡ Some ps → Carry sizes q ps
      by (Some true) i e = closes ps (same_Some _ _ e) (λ look gives hyps. (closed_sound sizes look [] q.goal true i).0 refl)
      by o i e = absurd (no_premises e)

  evaluated_not_sound : (h : ℕ) (ps : List Premise) → evaluated_not sizes (hypothesis q.hypotheses h) ≡ Some ps → Carry sizes q ps
  evaluated_not_sound h ps e = by_formula (hypothesis q.hypotheses h) refl e
    where
      by : (f : FormulaTree) → hypothesis q.hypotheses h ≡ Some f → (o : Option Bool) → closed_truth sizes f ≡ o → refuted o ≡ Some ps → Carry sizes q ps
      by f i (Some false) c e = closes ps (same_Some _ _ e) (λ look gives hyps.
          absurd (not_so ((closed_sound sizes look [] f false c).1 (hypothesis_holds sizes look q.hypotheses h f i hyps))))
      by f i o c e = absurd (no_premises e)

      by_formula : (o : Option FormulaTree) → hypothesis q.hypotheses h ≡ o → evaluated_not sizes o ≡ Some ps → Carry sizes q ps
      by_formula None i e = absurd (no_premises e)
      by_formula (Some f) i e = by f i (closed_truth sizes f) refl e

  linear_sound : (ms : List Multiple) (ps : List Premise) → linear_sum sizes q ms ≡ Some ps → Carry sizes q ps
  linear_sound [] ps e = absurd (no_premises e)
  linear_sound (m ∷ ms) ps e =
      let p = only_tells (refuted_by (rows_taken sizes q (m ∷ ms)) (multipliers (m ∷ ms))) [] ps e in
      closes ps p.1 (λ look gives hyps. linear_holds sizes look q kinded gives hyps (m ∷ ms) p.0)

  -- ---- order

  split_sound : (a b : TermArgument) (ps : List Premise) → (term_fits sizes q.names a && term_fits sizes q.names b) ≡ true → split a b ≡ Some ps → Carry sizes q ps
  split_sound (term.Term s kind.Integer) (term.Term t kind.Integer) ps fit e =
      let both = and_parts (term_fits sizes q.names (term.Term s kind.Integer)) (term_fits sizes q.names (term.Term t kind.Integer)) fit in
      let es = is_kind_tells _ kind.Integer (kind_of sizes q.names [] s) both.0 in
      let et = is_kind_tells _ kind.Integer (kind_of sizes q.names [] t) both.1 in
      subst (Carry sizes q) (same_Some _ _ e) (
        (adds_all_kinded (Rel Less s t ∷ []) (rel_fits Less s t es et refl, tt), (adds_all_kinded (Rel Equal s t ∷ []) (rel_fits Equal s t es et refl, tt), (adds_all_kinded (Rel Less t s ∷ []) (rel_fits Less t s et es refl, tt), tt))),
        (λ w look gives hyps.
            let st = holds_stable sizes look q.goal [] in
            int_valued sizes look q.names gives s es (H look q.goal) st (λ x hx.
            int_valued sizes look q.names gives t et (H look q.goal) st (λ y hy.
            by look s t x y hx hy
            (λ h. adds_valid sizes q None (Rel Less s t ∷ []) w.0 look gives hyps (h, tt))
            (λ h. adds_valid sizes q None (Rel Equal s t ∷ []) w.1.0 look gives hyps (h, tt))
            (λ h. adds_valid sizes q None (Rel Less t s ∷ []) w.1.1.0 look gives hyps (h, tt))
            (int_lt x y) refl (int_eq x y) refl))),
      )
    where
      by : (look : Look) (s t : TermTree) (x y : ℤ) → IsValue sizes look s [] (value.Int x) → IsValue sizes look t [] (value.Int y) →
          (H look (Rel Less s t) → H look q.goal) → (H look (Rel Equal s t) → H look q.goal) → (H look (Rel Less t s) → H look q.goal) →
          (b : Bool) → int_lt x y ≡ b → (c : Bool) → int_eq x y ≡ c → H look q.goal
      by look s t x y hx hy l m g true e c f = l ((rel_holds sizes look [] s t (value.Int x) (value.Int y) hx hy Less).0 e)
      by look s t x y hx hy l m g false e true f = m ((rel_holds sizes look [] s t (value.Int x) (value.Int y) hx hy Equal).0 f)
      by look s t x y hx hy l m g false e false f = g ((rel_holds sizes look [] t s (value.Int y) (value.Int x) hy hx Less).0 (true_lt y x (other_way x y e f)))
  split_sound a b ps fit e = absurd (no_premises e)

  equal_at_most_sound : (ps : List Premise) → equal_at_most sizes q.names q.goal ≡ Some ps → Carry sizes q ps
  equal_at_most_sound ps e = by_goal q.goal refl e
    where
      by_goal : (g : FormulaTree) → q.goal ≡ g → equal_at_most sizes q.names g ≡ Some ps → Carry sizes q ps
      by_goal (Rel Equal s t) i e =
          let p = only_tells (is_integer (kind_of sizes q.names [] s)) _ ps e in
          let es = integer_tells (kind_of sizes q.names [] s) p.0 in
          let et = equated sizes q.names s t (subst Fits i kinded.goal) es in
          subst (Carry sizes q) p.1 (
            (proves_kinded (Rel AtMost s t) (rel_fits AtMost s t es et refl), (proves_kinded (Rel AtMost t s) (rel_fits AtMost t s et es refl), tt)),
            (λ w look gives hyps. subst (H look) (sym i) (
                int_valued sizes look q.names gives s es (H look (Rel Equal s t)) (holds_stable sizes look (Rel Equal s t) []) (λ x hx.
                int_valued sizes look q.names gives t et (H look (Rel Equal s t)) (holds_stable sizes look (Rel Equal s t) []) (λ y hy.
                let l = le_true x y ((rel_holds sizes look [] s t (value.Int x) (value.Int y) hx hy AtMost).1 (adds_valid sizes q (Some (Rel AtMost s t)) [] w.0 look gives hyps tt)) in
                let g = le_true y x ((rel_holds sizes look [] t s (value.Int y) (value.Int x) hy hx AtMost).1 (adds_valid sizes q (Some (Rel AtMost t s)) [] w.1.0 look gives hyps tt)) in
                let same : x ≡ y = omega (arith, ints, l, g) in
                (rel_holds sizes look [] s t (value.Int x) (value.Int y) hx hy Equal).0 ((Decides-int_eq x y).1 same))))),
          )
      by_goal g i e = absurd (no_premises e)

  -- ---- ranges

  in_range : (t a b : TermTree) → Fits (Rel Member t (Bin Range a b)) → Has t kind.Integer × Has a kind.Integer × Has b kind.Integer
  in_range t a b fit =
      let p = both_true (rel_kinds Member) (kind_of sizes q.names [] t) (kind_of sizes q.names [] (Bin Range a b)) fit in
      let r = both_some (bin_kind Range) (kind_of sizes q.names [] a) (kind_of sizes q.names [] b) p.1 p.3 in
      let k = range_set r.0 r.1 p.1 r.4 in
      (p.2 ∙ ap Some (k.2 p.0 p.4), r.2 ∙ ap Some k.0, r.3 ∙ ap Some k.1)

  ends_fit : (t a b : TermTree) → Fits (Rel Member t (Bin Range a b)) → Fits (Rel AtMost a t) × Fits (Rel AtMost t b)
  ends_fit t a b fit =
      let k = in_range t a b fit in
      (rel_fits AtMost a t k.1 k.0 refl, rel_fits AtMost t b k.0 k.2 refl)

  range_holds : (look : Look) → Gives sizes look q.names → (t a b : TermTree) → Fits (Rel Member t (Bin Range a b)) → H look (Rel AtMost a t) → H look (Rel AtMost t b) → H look (Rel Member t (Bin Range a b))
  range_holds look gives t a b fit low high =
      let k = in_range t a b fit in
      let G : FormulaTree = Rel Member t (Bin Range a b) in
      let st = holds_stable sizes look G [] in
      int_valued sizes look q.names gives t k.0 (H look G) st (λ x hx.
      int_valued sizes look q.names gives a k.1 (H look G) st (λ y hy.
      int_valued sizes look q.names gives b k.2 (H look G) st (λ z hz.
      (rel_holds sizes look [] t (Bin Range a b) (value.Int x) _ hx (bin_value sizes look [] a b (value.Int y) (value.Int z) hy hz Range) Member).0
      (range_test y z x ∙ and_from _ _ ((rel_holds sizes look [] a t (value.Int y) (value.Int x) hy hx AtMost).1 low) ((rel_holds sizes look [] t b (value.Int x) (value.Int z) hx hz AtMost).1 high)))))

  range_tells : (look : Look) → Gives sizes look q.names → (t a b : TermTree) → Fits (Rel Member t (Bin Range a b)) → H look (Rel Member t (Bin Range a b)) → H look (Rel AtMost a t) × H look (Rel AtMost t b)
  range_tells look gives t a b fit inside =
      let k = in_range t a b fit in
      let G : FormulaTree = And (Rel AtMost a t) (Rel AtMost t b) in
      let st = holds_stable sizes look G [] in
      int_valued sizes look q.names gives t k.0 (H look G) st (λ x hx.
      int_valued sizes look q.names gives a k.1 (H look G) st (λ y hy.
      int_valued sizes look q.names gives b k.2 (H look G) st (λ z hz.
      let p = and_parts (int_le y x) (int_le x z) (sym (range_test y z x)
      ∙ (rel_holds sizes look [] t (Bin Range a b) (value.Int x) _ hx (bin_value sizes look [] a b (value.Int y) (value.Int z) hy hz Range) Member).1 inside) in
      ((rel_holds sizes look [] a t (value.Int y) (value.Int x) hy hx AtMost).0 p.0, (rel_holds sizes look [] t b (value.Int x) (value.Int z) hx hz AtMost).0 p.1))))

  range_right_sound : (ps : List Premise) → range_right q.goal ≡ Some ps → Carry sizes q ps
  range_right_sound ps e = by_goal q.goal refl e
    where
      by_goal : (g : FormulaTree) → q.goal ≡ g → range_right g ≡ Some ps → Carry sizes q ps
      by_goal (Rel Member t (Bin Range a b)) i e =
          let fit : Fits (Rel Member t (Bin Range a b)) = subst Fits i kinded.goal in
          let ends = ends_fit t a b fit in
          subst (Carry sizes q) (same_Some _ _ e) (
            (proves_kinded (Rel AtMost a t) ends.0, (proves_kinded (Rel AtMost t b) ends.1, tt)),
            (λ w look gives hyps. subst (H look) (sym i) (range_holds look gives t a b fit
                (adds_valid sizes q (Some (Rel AtMost a t)) [] w.0 look gives hyps tt) (adds_valid sizes q (Some (Rel AtMost t b)) [] w.1.0 look gives hyps tt))),
          )
      by_goal g i e = absurd (no_premises e)

  range_left_sound : (h : ℕ) (ps : List Premise) → range_left (hypothesis q.hypotheses h) ≡ Some ps → Carry sizes q ps
  range_left_sound h ps e = by_formula (hypothesis q.hypotheses h) refl e
    where
      by_formula : (o : Option FormulaTree) → hypothesis q.hypotheses h ≡ o → range_left o ≡ Some ps → Carry sizes q ps
      by_formula (Some (Rel Member t (Bin Range a b))) i e =
          let fit = hypothesis_fits sizes q.names q.hypotheses h (Rel Member t (Bin Range a b)) i kinded.hypotheses in
          let ends = ends_fit t a b fit in
          let fs : List FormulaTree = Rel AtMost a t ∷ Rel AtMost t b ∷ [] in
          subst (Carry sizes q) (same_Some _ _ e) (
            (adds_all_kinded fs (ends.0, (ends.1, tt)), tt),
            (λ w look gives hyps.
                let p = range_tells look gives t a b fit (hypothesis_holds sizes look q.hypotheses h (Rel Member t (Bin Range a b)) i hyps) in
                adds_valid sizes q None fs w.0 look gives hyps (p.0, (p.1, tt))),
          )
      by_formula o i e = absurd (no_premises e)

  -- ---- products and quotients

  bin_has : (s : TermSign) (a b : TermTree) → Has a kind.Integer → Has b kind.Integer → bin_kind s kind.Integer kind.Integer ≡ Some kind.Integer → Has (Bin s a b) kind.Integer
  bin_has s a b e f g = ap₂ (both_kinds (bin_kind s)) e f ∙ g

  quotient_fits : (t : TermTree) (d : ℤ) → Has t kind.Integer → AllFit sizes q.names (quotient_facts t (Num d))
  quotient_fits t d et =
      let quotient = bin_has Div t (Num d) et refl refl in
      let rest = bin_has Mod t (Num d) et refl refl in
      let product = bin_has Mul (Num d) (Bin Div t (Num d)) refl quotient refl in
      let sum = bin_has Add (Bin Mul (Num d) (Bin Div t (Num d))) (Bin Mod t (Num d)) product rest refl in
      (rel_fits Equal t (Bin Add (Bin Mul (Num d) (Bin Div t (Num d))) (Bin Mod t (Num d))) et sum refl, (rel_fits AtMost (Num (pos 0)) (Bin Mod t (Num d)) refl rest refl, (rel_fits Less (Bin Mod t (Num d)) (Num d) rest refl refl, tt)))

  quotient_holds : (look : Look) → Gives sizes look q.names → (t : TermTree) (n : ℕ) → Has t kind.Integer → int_lt (pos 0) (pos n) ≡ true → (C : Type 0) → IsStable C → (AllHold sizes look (quotient_facts t (Num (pos n))) → C) → C
  quotient_holds look gives t n et above C st go = int_valued sizes look q.names gives t et C st (λ x hx.
      let p : 0 < n = omega (arith, ints, lt_true (pos 0) (pos n) above) in
      let d : TermTree = Num (pos n) in
      let hq : IsValue sizes look (Bin Div t d) [] (value.Int (int_div_euclid x (pos n))) =
      subst (λ z. IsValue sizes look (Bin Div t d) [] z) (if_true (int_lt (pos 0) (pos n)) _ _ above) (bin_value sizes look [] t d (value.Int x) (value.Int (pos n)) hx refl Div) in
      let hr : IsValue sizes look (Bin Mod t d) [] (value.Int (int_rem_euclid x (pos n))) =
      subst (λ z. IsValue sizes look (Bin Mod t d) [] z) (if_true (int_lt (pos 0) (pos n)) _ _ above) (bin_value sizes look [] t d (value.Int x) (value.Int (pos n)) hx refl Mod) in
      let hp = bin_value sizes look [] d (Bin Div t d) (value.Int (pos n)) (value.Int (int_div_euclid x (pos n))) refl hq Mul in
      let hs = bin_value sizes look [] (Bin Mul d (Bin Div t d)) (Bin Mod t d) _ _ hp hr Add in
      go (
        (rel_holds sizes look [] t (Bin Add (Bin Mul d (Bin Div t d)) (Bin Mod t d)) (value.Int x) _ hx hs Equal).0 ((Decides-int_eq x _).1 (quotient_law x n p)),
        (
          (rel_holds sizes look [] (Num (pos 0)) (Bin Mod t d) (value.Int (pos 0)) _ refl hr AtMost).0 (true_le (pos 0) _ (rest_low x n)),
          ((rel_holds sizes look [] (Bin Mod t d) d _ (value.Int (pos n)) hr refl Less).0 (true_lt _ (pos n) (rest_high x n p)), tt),
        ),
      ))

  div_mod_sound : (a : TermArgument) (d : ℤ) (ps : List Premise) → term_fits sizes q.names a ≡ true → div_mod a d ≡ Some ps → Carry sizes q ps
  div_mod_sound (term.Term t kind.Integer) (pos n) ps fit e =
      let p = only_tells (int_lt (pos 0) (pos n)) _ ps e in
      let et = is_kind_tells _ kind.Integer (kind_of sizes q.names [] t) fit in
      let fs = quotient_facts t (Num (pos n)) in
      subst (Carry sizes q) p.1 (
        (adds_all_kinded fs (quotient_fits t (pos n) et), tt),
        (λ w look gives hyps. quotient_holds look gives t n et p.0 (H look q.goal) (holds_stable sizes look q.goal []) (λ all. adds_valid sizes q None fs w.0 look gives hyps all)),
      )
  div_mod_sound (term.Term t kind.Integer) (negsuc n) ps fit e = let p = only_tells (int_lt (pos 0) (negsuc n)) (adding (quotient_facts t (Num (negsuc n))) ∷ []) ps e in absurd (omega (arith, ints, lt_true (pos 0) (negsuc n) p.0))
  div_mod_sound a d ps fit e = absurd (no_premises e)

  mul_sign_sound : (a b : TermArgument) (ps : List Premise) → (term_fits sizes q.names a && term_fits sizes q.names b) ≡ true → mul_sign a b ≡ Some ps → Carry sizes q ps
  mul_sign_sound (term.Term s kind.Integer) (term.Term t kind.Integer) ps fit e =
      let both = and_parts (term_fits sizes q.names (term.Term s kind.Integer)) (term_fits sizes q.names (term.Term t kind.Integer)) fit in
      let es = is_kind_tells _ kind.Integer (kind_of sizes q.names [] s) both.0 in
      let et = is_kind_tells _ kind.Integer (kind_of sizes q.names [] t) both.1 in
      let zero : TermTree = Num (pos 0) in
      let product = bin_has Mul s t es et refl in
      subst (Carry sizes q) (same_Some _ _ e) (
        (proves_kinded (Rel AtMost zero s) (rel_fits AtMost zero s refl es refl), (proves_kinded (Rel AtMost zero t) (rel_fits AtMost zero t refl et refl), (adds_all_kinded (Rel AtMost zero (Bin Mul s t) ∷ []) (rel_fits AtMost zero (Bin Mul s t) refl product refl, tt), tt))),
        (λ w look gives hyps.
            let st = holds_stable sizes look q.goal [] in
            int_valued sizes look q.names gives s es (H look q.goal) st (λ x hx.
            int_valued sizes look q.names gives t et (H look q.goal) st (λ y hy.
            let a = le_true (pos 0) x ((rel_holds sizes look [] zero s (value.Int (pos 0)) (value.Int x) refl hx AtMost).1 (adds_valid sizes q (Some (Rel AtMost zero s)) [] w.0 look gives hyps tt)) in
            let b = le_true (pos 0) y ((rel_holds sizes look [] zero t (value.Int (pos 0)) (value.Int y) refl hy AtMost).1 (adds_valid sizes q (Some (Rel AtMost zero t)) [] w.1.0 look gives hyps tt)) in
            let m = bin_value sizes look [] s t (value.Int x) (value.Int y) hx hy Mul in
            adds_valid sizes q None (Rel AtMost zero (Bin Mul s t) ∷ []) w.1.1.0 look gives hyps
            ((rel_holds sizes look [] zero (Bin Mul s t) (value.Int (pos 0)) (value.Int (x *ℤ y)) refl m AtMost).0 (true_le (pos 0) (x *ℤ y) (product_at_least x y a b)), tt)))),
      )
  mul_sign_sound a b ps fit e = absurd (no_premises e)

pub number_rule_sound : (sizes : List ℕ) (r : Rule) → Sound sizes (number_premises sizes) r
number_rule_sound sizes rule.Eval q ps e fit k = evaluated_sound sizes q k ps e
number_rule_sound sizes (rule.EvalNot h) q ps e fit k = evaluated_not_sound sizes q k h ps e
number_rule_sound sizes (rule.Lin rows) q ps e fit k = linear_sound sizes q k rows ps e
number_rule_sound sizes (rule.Split s t) q ps e fit k = split_sound sizes q k s t ps fit e
number_rule_sound sizes rule.EqLe q ps e fit k = equal_at_most_sound sizes q k ps e
number_rule_sound sizes rule.Rng q ps e fit k = range_right_sound sizes q k ps e
number_rule_sound sizes (rule.RngL h) q ps e fit k = range_left_sound sizes q k h ps e
number_rule_sound sizes (rule.DivMod t d) q ps e fit k = div_mod_sound sizes q k t d ps fit e
number_rule_sound sizes (rule.MulSign s t) q ps e fit k = mul_sign_sound sizes q k s t ps fit e
number_rule_sound sizes r q ps e fit k = absurd (no_premises e)
