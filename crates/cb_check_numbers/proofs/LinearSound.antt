-- A sum of rows that cannot be refutes what names them.
use Rattle.std.proofs.Common.{◌≡◌, ℕ, zero, suc, ℤ, pos, negsuc, ◌-ℤ◌, ◌*ℤ◌, ◌≤ℤ◌, ◌<ℤ◌, int_le, Bool, true, false, ◌||◌, if◌then◌else◌, List, [], ◌∷◌, ◌++◌, Option, Some, None, refl, sym, ap, ◌∙◌, subst, arith, true≢false}
use Rattle.std.specs.Prelude.{⊤}
use Rattle.std.proofs.lemmas.Bool.{and_parts}
use Rattle.std.proofs.lemmas.Option.{same_Some}
use Rattle.std.proofs.lemmas.Int.{by_lt_z, ints}
use Rattle.cb_term.specs.declared.name.Name.{Name}
use Rattle.cb_term.specs.declared.kind.Kind.{Kind}
use Rattle.cb_term.specs.declared.kind.Kind.TheVariants as kind
use Rattle.cb_term.specs.declared.sign.TermSign.{TermSign}
use Rattle.cb_term.specs.declared.sign.TermSign.TheVariants.{Add, Minus, Mul, Union, Inter}
use Rattle.cb_term.specs.declared.sign.RelSign.{RelSign}
use Rattle.cb_term.specs.declared.sign.RelSign.TheVariants.{Equal, Less, AtMost}
use Rattle.cb_term.specs.declared.value.Value.TheVariants as value
use Rattle.cb_term.specs.Tree.{TermTree, Num, Bin, Neg, FormulaTree, Rel, Not}
use Rattle.cb_term.specs.Values.{Look, IsOf}
use Rattle.cb_term.specs.Holds.{Holds, Meets}
use Rattle.cb_term.proofs.HoldsLemmas.{holds_stable}
use Rattle.cb_lin.specs.Form.{Form, zero_form, form_of_term, summed}
use Rattle.cb_lin.specs.Small.{small_sums}
use Rattle.cb_lin.specs.Laws.{form_value, NoneNegative, taken, AllAre, Respects, IsRight}
use Rattle.cb_lin.proofs.FormValues.{form_has_value, numbers_can_be_given, sum_has_value, sum_is_not_negative}
use Rattle.cb_seq.specs.declared.rule.Multiple.{Multiple}
use Rattle.cb_seq.specs.Kinds.{kind_of, fits, Gives, rel_kinds, bin_kind, neg_kind}
use Rattle.cb_seq.specs.Validity.{Claim, AllHold, Kinded}
use Rattle.cb_seq.specs.Premises.{hypothesis}
use Rattle.cb_seq.proofs.KindLemmas.{one_some, both_some, both_true}
use Rattle.cb_seq.proofs.KindSound.{common_kind, kind_sound}
use Rattle.cb_seq.proofs.SetLemmas.{eq_tells}
use Rattle.cb_seq.proofs.PremiseLemmas.{hypothesis_holds, hypothesis_fits, rel_holds}
use Rattle.cb_check_numbers.specs.Linear.{is_integer, Difference, same, where_true, where_false, said, denied, said_by, named, form_of_difference, small_row, is_small_difference, row_taken, with_row, rows_taken, multipliers, is_below_zero, cannot_be, refuted_by}
use Rattle.cb_check_numbers.proofs.NumberFacts.{le_true, true_le, lt_true, true_lt, product_at_least}

not_so : false ≡ true → ⊥
not_so e = true≢false (sym e)

no_some : {A : Type 0} {x : A} → None ≡ Some x → ⊥
no_some e = cc

if_some : {A : Type 0} (b : Bool) (x y : A) → (if b then Some x else None) ≡ Some y → (b ≡ true) × (x ≡ y)
if_some true x y e = (refl, same_Some x y e)
if_some false x y e = absurd (no_some e)

-- ---- kinds of numbers

pub integer_tells : (o : Option Kind) → is_integer o ≡ true → o ≡ Some kind.Integer
integer_tells (Some kind.Integer) e = refl
integer_tells o e = absurd (not_so e)

pub less_kinds : (k l : Kind) → rel_kinds Less k l ≡ true → (k ≡ kind.Integer) × (l ≡ kind.Integer)
less_kinds kind.Integer kind.Integer e = (refl, refl)
less_kinds k l e = absurd (not_so e)

pub at_most_kinds : (k l : Kind) → rel_kinds AtMost k l ≡ true → (k ≡ kind.Integer) × (l ≡ kind.Integer)
at_most_kinds kind.Integer kind.Integer e = (refl, refl)
at_most_kinds k l e = absurd (not_so e)

equal_kind : (l : Kind) → rel_kinds Equal kind.Integer l ≡ true → l ≡ kind.Integer
equal_kind kind.Integer e = refl
equal_kind l e = absurd (not_so e)

operand_kind : (k : Kind) → neg_kind k ≡ Some kind.Integer → k ≡ kind.Integer
operand_kind kind.Integer e = refl
operand_kind k e = absurd (no_some e)

side_kinds : (sizes : List ℕ) (s : TermSign) (k l : Kind) → bin_kind s k l ≡ Some kind.Integer → (k ≡ kind.Integer) × (l ≡ kind.Integer)
side_kinds sizes s kind.Integer kind.Integer e = (refl, refl)
side_kinds sizes Minus k l e = absurd (common_kind sizes k l kind.Integer e)
side_kinds sizes Union k l e = absurd (common_kind sizes k l kind.Integer e)
side_kinds sizes Inter k l e = absurd (common_kind sizes k l kind.Integer e)
side_kinds sizes s k l e = absurd (no_some e)

-- ---- all terms of a list

all_also : (P : TermTree → Type 0) (ts us : List TermTree) → AllAre P ts → AllAre P us → AllAre P (ts ++ us)
all_also P [] us a b = b
all_also P (t ∷ ts) us a b = (a.0, all_also P ts us a.1 b)

all_parts : (P : TermTree → Type 0) (ts us : List TermTree) → AllAre P (ts ++ us) → AllAre P ts × AllAre P us
all_parts P [] us a = (tt, a)
all_parts P (t ∷ ts) us a = let r = all_parts P ts us a.1 in ((a.0, r.0), r.1)

all_mono : (P Q : TermTree → Type 0) → ((t : TermTree) → P t → Q t) → (ts : List TermTree) → AllAre P ts → AllAre Q ts
all_mono P Q h [] a = tt
all_mono P Q h (t ∷ ts) a = (h t a.0, all_mono P Q h ts a.1)

first_taken : (P : TermTree → Type 0) (t : TermTree) → AllAre P (taken t) → P t
first_taken P (Neg a) h = h.0
first_taken P (Bin Add a b) h = h.0
first_taken P (Bin Minus a b) h = h.0
first_taken P (Bin Mul a b) h = h.0
first_taken P t h = h.0

module _ (sizes : List ℕ) (names : List (Name × Kind)) where
  abbrev IsInteger : TermTree → Type 0
  IsInteger t = kind_of sizes names [] t ≡ Some kind.Integer

  sides : (s : TermSign) (a b : TermTree) → IsInteger (Bin s a b) → IsInteger a × IsInteger b
  sides s a b e =
      let p = both_some (bin_kind s) (kind_of sizes names [] a) (kind_of sizes names [] b) kind.Integer e in
      let k = side_kinds sizes s p.0 p.1 p.4 in
      (p.2 ∙ ap Some k.0, p.3 ∙ ap Some k.1)

  -- each term whose form is taken is a whole number
  taken_integers : (t : TermTree) → IsInteger t → AllAre IsInteger (taken t)
  taken_integers (Neg a) e =
      let p = one_some neg_kind (kind_of sizes names [] a) kind.Integer e in
      (e, taken_integers a (p.1 ∙ ap Some (operand_kind p.0 p.2)))
  taken_integers (Bin Add a b) e = let p = sides Add a b e in (e, all_also IsInteger (taken a) (taken b) (taken_integers a p.0) (taken_integers b p.1))
  taken_integers (Bin Minus a b) e = let p = sides Minus a b e in (e, all_also IsInteger (taken a) (taken b) (taken_integers a p.0) (taken_integers b p.1))
  taken_integers (Bin Mul a b) e = let p = sides Mul a b e in (e, all_also IsInteger (taken a) (taken b) (taken_integers a p.0) (taken_integers b p.1))
  taken_integers t e = (e, tt)

  compared : (s : RelSign) → ((k l : Kind) → rel_kinds s k l ≡ true → (k ≡ kind.Integer) × (l ≡ kind.Integer)) →
      (a b : TermTree) → fits sizes names [] (Rel s a b) ≡ true → IsInteger a × IsInteger b
  compared s go a b fit =
      let p = both_true (rel_kinds s) (kind_of sizes names [] a) (kind_of sizes names [] b) fit in
      let k = go p.0 p.1 p.4 in
      (p.2 ∙ ap Some k.0, p.3 ∙ ap Some k.1)

  pub equated : (a b : TermTree) → fits sizes names [] (Rel Equal a b) ≡ true → IsInteger a → IsInteger b
  equated a b fit ea =
      let p = both_true (rel_kinds Equal) (kind_of sizes names [] a) (kind_of sizes names [] b) fit in
      let k : p.0 ≡ kind.Integer = same_Some _ _ (sym p.2 ∙ ea) in
      p.3 ∙ ap Some (equal_kind p.1 (subst (λ z. rel_kinds Equal z p.1 ≡ true) k p.4))

-- at least 0, or 0
abbrev IsSo : Bool → ℤ → Type 0
IsSo true x = x ≡ pos 0
IsSo false x = pos 0 ≤ℤ x

abbrev less_by : Bool → ℤ
less_by true = pos 1
less_by false = pos 0

module _ (sizes : List ℕ) (look : Look) (q : Claim) (kinded : Kinded sizes q) (gives : Gives sizes look q.names) (hyps : AllHold sizes look q.hypotheses) where
  abbrev H : FormulaTree → Type 0
  H f = Holds sizes look f []

  abbrev Fits : FormulaTree → Type 0
  Fits f = fits sizes q.names [] f ≡ true

  abbrev Whole : TermTree → Type 0
  Whole t = kind_of sizes q.names [] t ≡ Some kind.Integer

  abbrev Right : (TermTree → ℤ) → TermTree → Type 0
  Right number t = IsRight sizes look [] number t

  -- the difference of two whole numbers is as it is said to be
  abbrev Known : Difference → Type 0
  Known d = Whole d.greater × Whole d.smaller
      × ((number : TermTree → ℤ) → Right number d.greater → Right number d.smaller → IsSo d.is_zero ((number d.greater -ℤ number d.smaller) -ℤ less_by d.strict))

  where_true_known : (f : FormulaTree) (d : Difference) → where_true f ≡ Some d → Fits f → H f → Known d
  where_true_known (Rel AtMost a b) d e fit h =
      let k = compared sizes q.names AtMost at_most_kinds a b fit in
      subst Known (same_Some _ _ e) (
        k.1,
        k.0,
        (λ number rb ra.
            let l : number a ≤ℤ number b = le_true (number a) (number b) ((rel_holds sizes look [] a b (value.Int (number a)) (value.Int (number b)) ra rb AtMost).1 h) in
            omega (arith, ints, l)),
      )
  where_true_known (Rel Less a b) d e fit h =
      let k = compared sizes q.names Less less_kinds a b fit in
      subst Known (same_Some _ _ e) (
        k.1,
        k.0,
        (λ number rb ra.
            let l : number a <ℤ number b = lt_true (number a) (number b) ((rel_holds sizes look [] a b (value.Int (number a)) (value.Int (number b)) ra rb Less).1 h) in
            omega (arith, ints, l)),
      )
  where_true_known f d e fit h = absurd (no_some e)

  where_false_known : (f : FormulaTree) (d : Difference) → where_false f ≡ Some d → Fits f → (¬ H f) → Known d
  where_false_known (Rel AtMost a b) d e fit n =
      let k = compared sizes q.names AtMost at_most_kinds a b fit in
      subst Known (same_Some _ _ e) (
        k.0,
        k.1,
        (λ number ra rb.
            let l : number b <ℤ number a = by_lt_z (number b) (number a) (λ l. l) (λ g.
            absurd (n ((rel_holds sizes look [] a b (value.Int (number a)) (value.Int (number b)) ra rb AtMost).0 (true_le (number a) (number b) g)))) in
            omega (arith, ints, l)),
      )
  where_false_known (Rel Less a b) d e fit n =
      let k = compared sizes q.names Less less_kinds a b fit in
      subst Known (same_Some _ _ e) (
        k.0,
        k.1,
        (λ number ra rb.
            let l : number b ≤ℤ number a = by_lt_z (number a) (number b) (λ l.
            absurd (n ((rel_holds sizes look [] a b (value.Int (number a)) (value.Int (number b)) ra rb Less).0 (true_lt (number a) (number b) l)))) (λ g. g) in
            omega (arith, ints, l)),
      )
  where_false_known f d e fit n = absurd (no_some e)

  said_known : (f : FormulaTree) (d : Difference) → said sizes q.names f ≡ Some d → Fits f → H f → Known d
  said_known (Rel Equal a b) d e fit h =
      let p = if_some (is_integer (kind_of sizes q.names [] a)) (same a b) d e in
      let ka = integer_tells (kind_of sizes q.names [] a) p.0 in
      let kb = equated sizes q.names a b fit ka in
      subst Known p.1 (
        kb,
        ka,
        (λ number rb ra.
            let s : number a ≡ number b = eq_tells (number a) (number b) ((rel_holds sizes look [] a b (value.Int (number a)) (value.Int (number b)) ra rb Equal).1 h) in
            omega (arith, ints, s)),
      )
  said_known (Not f) d e fit h = where_false_known f d e fit h
  said_known f d e fit h = where_true_known f d e fit h

  denied_known : (g : FormulaTree) (d : Difference) → denied g ≡ Some d → Fits g → (¬ H g) → Known d
  denied_known (Not f) d e fit n = where_true_known f d e fit (holds_stable sizes look f [] n)
  denied_known g d e fit n = where_false_known g d e fit n

  -- ---- rows

  -- the form is that of a difference that is as it is said to be, and may be taken so often
  abbrev Row : Form → ℤ → Type 0
  Row f k = (d : Difference) × Known d × (form_of_difference d ≡ f) × ((d.is_zero || int_le (pos 0) k) ≡ true)

  abbrev Rows : List Form → List ℤ → Type 0
  Rows [] ks = ⊤
  Rows (f ∷ fs) [] = ⊤
  Rows (f ∷ fs) (k ∷ ks) = Row f k × Rows fs ks

  -- the terms whose forms are taken
  terms : (fs : List Form) (ks : List ℤ) → Rows fs ks → List TermTree
  terms [] ks rows = []
  terms (f ∷ fs) [] rows = []
  terms (f ∷ fs) (k ∷ ks) rows = taken rows.0.0.greater ++ (taken rows.0.0.smaller ++ terms fs ks rows.1)

  terms_whole : (fs : List Form) (ks : List ℤ) (rows : Rows fs ks) → AllAre Whole (terms fs ks rows)
  unfolding terms
  terms_whole [] ks rows = tt
  terms_whole (f ∷ fs) [] rows = tt
  terms_whole (f ∷ fs) (k ∷ ks) rows =
      let d = rows.0.0 in
      let known = rows.0.1 in
      all_also Whole (taken d.greater) (taken d.smaller ++ terms fs ks rows.1) (taken_integers sizes q.names d.greater known.0)
      (all_also Whole (taken d.smaller) (terms fs ks rows.1) (taken_integers sizes q.names d.smaller known.1) (terms_whole fs ks rows.1))

  module _ (number : TermTree → ℤ) (respects : Respects number) where
    value_of_form : (d : Difference) → AllAre (Right number) (taken d.greater) → AllAre (Right number) (taken d.smaller) →
        form_value number (form_of_difference d) ≡ ((number d.greater -ℤ number d.smaller) -ℤ less_by d.strict)
    value_of_form d rg rs = by d.strict
      where
        by : (b : Bool) → form_value number (summed zero_form (form_of_term d.greater ∷ form_of_term d.smaller ∷ form_of_term (Num (pos 1)) ∷ []) (pos 1 ∷ negsuc 0 ∷ (if b then negsuc 0 else pos 0) ∷ []))
            ≡ ((number d.greater -ℤ number d.smaller) -ℤ less_by b)
        by true =
            omega (arith, ints, sum_has_value number zero_form (form_of_term d.greater ∷ form_of_term d.smaller ∷ form_of_term (Num (pos 1)) ∷ []) (pos 1 ∷ negsuc 0 ∷ negsuc 0 ∷ []) respects, form_has_value sizes look [] number d.greater respects rg, form_has_value sizes look [] number d.smaller respects rs)
        by false =
            omega (arith, ints, sum_has_value number zero_form (form_of_term d.greater ∷ form_of_term d.smaller ∷ form_of_term (Num (pos 1)) ∷ []) (pos 1 ∷ negsuc 0 ∷ pos 0 ∷ []) respects, form_has_value sizes look [] number d.greater respects rg, form_has_value sizes look [] number d.smaller respects rs)

    times_so : (k x : ℤ) (z : Bool) → IsSo z x → (z || int_le (pos 0) k) ≡ true → pos 0 ≤ℤ (k *ℤ x)
    times_so k x true s e = rw s (omega (arith, ints))
    times_so k x false s e = product_at_least k x (le_true (pos 0) k e) s

    none_negative : (fs : List Form) (ks : List ℤ) (rows : Rows fs ks) → AllAre (Right number) (terms fs ks rows) → NoneNegative number fs ks
    unfolding terms
    none_negative [] ks rows a = tt
    none_negative (f ∷ fs) [] rows a = tt
    none_negative (f ∷ fs) (k ∷ ks) rows a =
        let d = rows.0.0 in
        let p = all_parts (Right number) (taken d.greater) (taken d.smaller ++ terms fs ks rows.1) a in
        let r = all_parts (Right number) (taken d.smaller) (terms fs ks rows.1) p.1 in
        let so = rows.0.1.2 number (first_taken (Right number) d.greater p.0) (first_taken (Right number) d.smaller r.0) in
        let is : form_value number f ≡ ((number d.greater -ℤ number d.smaller) -ℤ less_by d.strict) = ap (form_value number) (sym rows.0.2) ∙ value_of_form d p.0 r.0 in
        (subst (λ x. pos 0 ≤ℤ (k *ℤ x)) (sym is) (times_so k _ d.is_zero so rows.0.3), none_negative fs ks rows.1 r.1)

    below_zero : (f : Form) → cannot_be f ≡ true → form_value number f <ℤ pos 0
    below_zero f e = by f.parts refl e
      where
        by : (ps : List (TermTree × ℤ)) → f.parts ≡ ps → is_below_zero ps f.constant ≡ true → form_value number f <ℤ pos 0
        by [] i e = rw i (omega (arith, ints, lt_true f.constant (pos 0) e))
        by (p ∷ ps) i e = absurd (not_so e)

  module _ (n : ¬ H q.goal) where
    named_known : (h : ℕ) (d : Difference) → named sizes q h ≡ Some d → Known d
    named_known zero d e = denied_known q.goal d e kinded.goal n
    named_known (suc h) d e = by (hypothesis q.hypotheses (suc h)) refl e
      where
        by : (o : Option FormulaTree) → hypothesis q.hypotheses (suc h) ≡ o → said_by sizes q.names o ≡ Some d → Known d
        by None i e = absurd (no_some e)
        by (Some f) i e = said_known f d e (hypothesis_fits sizes q.names q.hypotheses (suc h) f i kinded.hypotheses) (hypothesis_holds sizes look q.hypotheses (suc h) f i hyps)

    row_known : (m : Multiple) (f : Form) → row_taken m.by (named sizes q m.row) ≡ Some f → Row f m.by
    row_known m f e = by (named sizes q m.row) refl e
      where
        may : (d : Difference) (b : Bool) → (if b then small_row d else None) ≡ Some f → (b ≡ true) × (form_of_difference d ≡ f)
        may d true e = (refl, (if_some (is_small_difference d) (form_of_difference d) f e).1)
        may d false e = absurd (no_some e)

        by : (o : Option Difference) → named sizes q m.row ≡ o → row_taken m.by o ≡ Some f → Row f m.by
        by None i e = absurd (no_some e)
        by (Some d) i e = let p = may d (d.is_zero || int_le (pos 0) m.by) e in (d, named_known m.row d i, p.1, p.0)

    with_tells : (o : Option Form) (os : Option (List Form)) (fs : List Form) → with_row o os ≡ Some fs → (g : Form) × (gs : List Form) × (o ≡ Some g) × (os ≡ Some gs) × ((g ∷ gs) ≡ fs)
    with_tells None os fs e = absurd (no_some e)
    with_tells (Some g) None fs e = absurd (no_some e)
    with_tells (Some g) (Some gs) fs e = (g, gs, refl, refl, same_Some _ _ e)

    rows_known : (ms : List Multiple) (fs : List Form) → rows_taken sizes q ms ≡ Some fs → Rows fs (multipliers ms)
    rows_known [] fs e = subst (λ gs. Rows gs []) (same_Some _ _ e) tt
    rows_known (m ∷ ms) fs e =
        let p = with_tells (row_taken m.by (named sizes q m.row)) (rows_taken sizes q ms) fs e in
        subst (λ gs. Rows gs (m.by ∷ multipliers ms)) p.4 (row_known m p.0 p.2, rows_known ms p.1 p.3)

    refuted : (ms : List Multiple) → refuted_by (rows_taken sizes q ms) (multipliers ms) ≡ true → ⊥
    refuted ms e = by (rows_taken sizes q ms) refl e
      where
        by : (o : Option (List Form)) → rows_taken sizes q ms ≡ o → refuted_by o (multipliers ms) ≡ true → ⊥
        by None i e = not_so e
        by (Some fs) i e =
            let ks = multipliers ms in
            let p = and_parts (small_sums zero_form fs ks) (cannot_be (summed zero_form fs ks)) e in
            let rows = rows_known ms fs i in
            let whole = all_mono Whole (λ t. Meets sizes look t [] (IsOf sizes kind.Integer)) (λ t k. kind_sound sizes look q.names gives t [] [] kind.Integer k tt) (terms fs ks rows) (terms_whole fs ks rows) in
            numbers_can_be_given sizes look [] (terms fs ks rows) whole (λ number respects right.
            let low = sum_is_not_negative number zero_form fs ks respects (omega (arith, ints)) (none_negative number respects fs ks rows right) in
            let high = below_zero number respects (summed zero_form fs ks) p.1 in
            omega (arith, ints, low, high))

  pub linear_holds : (ms : List Multiple) → refuted_by (rows_taken sizes q ms) (multipliers ms) ≡ true → H q.goal
  linear_holds ms e = holds_stable sizes look q.goal [] (λ n. refuted n ms e)
