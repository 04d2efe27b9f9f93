-- The row of a difference, made from the forms of its sides: the order in which they and 1 are added, so that no sum on the way
-- passes the bound where the row does not.
use Rattle.std.proofs.Common.{◌≡◌, ℕ, zero, suc, ◌*◌, ℤ, pos, negsuc, ◌+ℤ◌, ◌*ℤ◌, neg_ℤ, ◌≤ℤ◌, ◌<ℤ◌, Bool, true, false, ◌&&◌, if◌then◌else◌, List, [], ◌∷◌, ◌++◌, Option, Some, None, nat_le, ◌^◌, refl, sym, ap, ap₂, ◌∙◌, append_assoc, arith}
use Rattle.std.specs.Ordering.{int_eq}
use Rattle.std.proofs.lemmas.Bool.{and_parts, and_from, le-leb, leb-true}
use Rattle.std.proofs.lemmas.List.{append-nil}
use Rattle.std.proofs.lemmas.Int.{ints}
use Rattle.cb_term.specs.Tree.{TermTree, Num}
use Rattle.cb_lin.specs.Form.{Form, zero_form, with_part, with_parts, sum_form, times_parts, times_form, form_of_term, summed}
use Rattle.cb_lin.specs.Small.{is_small, small_parts, small_form, small_sums}
use Rattle.cb_lin.proofs.RowLemmas.{Apart, Distinct}
use Rattle.cb_check_numbers.specs.Linear.{ones, form_between}
use Rattle.cb_check_numbers.specs.Counted.{checked}

-- ---- the first form that is added to 0 stays as it is

-- no part of the second has the term of a part of the first
abbrev Before : List (TermTree × ℤ) → List (TermTree × ℤ) → Type 0
Before [] qs = Unit {0}
Before (p ∷ ps) qs = Apart p.0 qs × Before ps qs

before_more : (q : TermTree × ℤ) (ps qs : List (TermTree × ℤ)) → Before ps (q ∷ qs) → Apart q.0 qs → Before (ps ++ q ∷ []) qs
before_more q [] qs b a = (a, tt)
before_more q (p ∷ ps) qs b a = (b.0.1, before_more q ps qs b.1 a)

with_new : (q : TermTree × ℤ) (ps qs : List (TermTree × ℤ)) → Before ps (q ∷ qs) → with_part q ps ≡ ps ++ q ∷ []
with_new q [] qs b = refl
with_new q (p ∷ ps) qs b = rw (b.0.0, with_new q ps qs b.1) refl

with_distinct : (ps qs : List (TermTree × ℤ)) → Before ps qs → Distinct qs → with_parts ps qs ≡ ps ++ qs
with_distinct ps [] b d = sym (append-nil ps)
with_distinct ps (q ∷ qs) b d =
    rw (with_new q ps qs b) (with_distinct (ps ++ q ∷ []) qs (before_more q ps qs b d.0) d.1 ∙ append_assoc ps (q ∷ []) qs)

one_times : (n : ℤ) → pos 1 *ℤ n ≡ n
one_times n = omega (arith, ints)

once : (ps : List (TermTree × ℤ)) → times_parts (pos 1) ps ≡ ps
once [] = refl
once ((t, n) ∷ ps) = rw (one_times n, once ps) refl

first_parts : (ps : List (TermTree × ℤ)) → Distinct ps → with_parts [] (times_parts (pos 1) ps) ≡ ps
first_parts ps d = rw (once ps) (with_distinct [] ps tt d)

-- ---- numbers of at most this size

abbrev within : ℕ → ℤ → Bool
within size (pos n) = nat_le n size
within size (negsuc n) = nat_le (suc n) size

within_tells : (size : ℕ) (n : ℤ) → within size n ≡ true → (neg_ℤ (pos size) ≤ℤ n) × (n ≤ℤ pos size)
within_tells size (pos n) e = (omega (arith, ints), omega (arith, ints, leb-true n size e))
within_tells size (negsuc n) e = (omega (arith, ints, leb-true (suc n) size e), omega (arith, ints))

tells_within : (size : ℕ) (n : ℤ) → neg_ℤ (pos size) ≤ℤ n → n ≤ℤ pos size → within size n ≡ true
tells_within size (pos n) l h = le-leb n size (omega (arith, ints, h))
tells_within size (negsuc n) l h = le-leb (suc n) size (omega (arith, ints, l))

small_within : (n : ℤ) → is_small n ≡ within (2 ^ 100) n
small_within (pos n) = refl
small_within (negsuc n) = refl

-- ---- what a form that is small says of others

minus_within : (size : ℕ) (n : ℤ) → within size n ≡ true → within size (negsuc 0 *ℤ n) ≡ true
minus_within size n e =
    let l = within_tells size n e in
    tells_within size (negsuc 0 *ℤ n) (omega (arith, ints, l.0, l.1)) (omega (arith, ints, l.0, l.1))

minus_small : (n : ℤ) → is_small n ≡ true → is_small (negsuc 0 *ℤ n) ≡ true
minus_small n e = small_within (negsuc 0 *ℤ n) ∙ minus_within (2 ^ 100) n (sym (small_within n) ∙ e)

minus_small_parts : (ps : List (TermTree × ℤ)) → small_parts ps ≡ true → small_parts (times_parts (negsuc 0) ps) ≡ true
minus_small_parts [] e = refl
minus_small_parts (p ∷ ps) e =
    let a = and_parts (is_small p.1) (small_parts ps) e in
    and_from (is_small (negsuc 0 *ℤ p.1)) (small_parts (times_parts (negsuc 0) ps)) (minus_small p.1 a.0) (minus_small_parts ps a.1)

-- a number is no larger than its product with one that is not 0
product_within : (size : ℕ) (k n : ℤ) → int_eq k (pos 0) ≡ false → within size (k *ℤ n) ≡ true → within size n ≡ true
product_within size (pos zero) n z e = cc
product_within size (pos (suc k)) (pos n) z e = le-leb n size (omega (arith, leb-true (suc k * n) size e))
product_within size (pos (suc k)) (negsuc n) z e = le-leb (suc n) size (omega (arith, ints, (within_tells size (pos (suc k) *ℤ negsuc n) e).0))
product_within size (negsuc k) (pos zero) z e = le-leb 0 size (omega arith)
product_within size (negsuc k) (pos (suc n)) z e = le-leb (suc n) size (omega (arith, ints, (within_tells size (negsuc k *ℤ pos (suc n)) e).0))
product_within size (negsuc k) (negsuc n) z e = le-leb (suc n) size (omega (arith, ints, (within_tells size (negsuc k *ℤ negsuc n) e).1))

product_small : (k n : ℤ) → int_eq k (pos 0) ≡ false → is_small (k *ℤ n) ≡ true → is_small n ≡ true
product_small k n z e = small_within n ∙ product_within (2 ^ 100) k n z (sym (small_within (k *ℤ n)) ∙ e)

small_of_times : (k : ℤ) (ps : List (TermTree × ℤ)) → int_eq k (pos 0) ≡ false → small_parts (times_parts k ps) ≡ true → small_parts ps ≡ true
small_of_times k [] z e = refl
small_of_times k (p ∷ ps) z e =
    let a = and_parts (is_small (k *ℤ p.1)) (small_parts (times_parts k ps)) e in
    and_from (is_small p.1) (small_parts ps) (product_small k p.1 z a.0) (small_of_times k ps z a.1)

-- a form is small where its product with a number that is not 0 is
pub small_factor : (k : ℤ) (f : Form) → int_eq k (pos 0) ≡ false → small_form (times_form k f) ≡ true → small_form f ≡ true
small_factor k f z e =
    let m : small_form (record { parts = times_parts k f.parts; constant = k *ℤ f.constant }) ≡ true = rw z at e in
    let a = and_parts (small_parts (times_parts k f.parts)) (is_small (k *ℤ f.constant)) m in
    and_from (small_parts f.parts) (is_small f.constant) (small_of_times k f.parts z a.0) (product_small k f.constant z a.1)

-- ---- sums on the way to a row

-- x is the number of the greater side, and y of the smaller
one_before : (size : ℕ) (x : ℤ) → within size x ≡ true → pos 0 <ℤ x → within size (negsuc 0 +ℤ x) ≡ true
one_before size x e l =
    let a = within_tells size x e in
    tells_within size (negsuc 0 +ℤ x) (omega (arith, ints, a.0, a.1, l)) (omega (arith, ints, a.0, a.1, l))

one_behind : (size : ℕ) (x y : ℤ) → within size x ≡ true → within size y ≡ true → x ≤ℤ pos 0 →
    within size (((pos 0 +ℤ (pos 1 *ℤ x)) +ℤ (negsuc 0 *ℤ y)) +ℤ negsuc 0) ≡ true → within size ((pos 0 +ℤ (pos 1 *ℤ x)) +ℤ (negsuc 0 *ℤ y)) ≡ true
one_behind size x y e f l g =
    let a = within_tells size x e in
    let b = within_tells size y f in
    let c = within_tells size (((pos 0 +ℤ (pos 1 *ℤ x)) +ℤ (negsuc 0 *ℤ y)) +ℤ negsuc 0) g in
    tells_within size ((pos 0 +ℤ (pos 1 *ℤ x)) +ℤ (negsuc 0 *ℤ y)) (omega (arith, ints, c.0, c.1)) (omega (arith, ints, a.0, a.1, b.0, b.1, l))

and_true : (b : Bool) → (b && true) ≡ b
and_true true = refl
and_true false = refl

-- the last decides where the others are true, one of them as soon as the last is
last_decides : (a b c d e r : Bool) → a ≡ true → b ≡ true → c ≡ true → (r ≡ true → d ≡ true) → e ≡ true → (a && (b && (c && (d && (e && (r && true)))))) ≡ r
last_decides a b c true e r ha hb hc hd he = rw (ha, hb, hc, he) (and_true r)
last_decides a b c false e true ha hb hc hd he = cc (hd refl)
last_decides a b c false e false ha hb hc hd he = rw (ha, hb, hc) refl

abbrev one : Form
one = form_of_term (Num (pos 1))

-- what rows add up to, where no sum on the way passes the bound
abbrev pub sum : List Form → List ℤ → Option Form
sum fs ks = if small_sums zero_form fs ks then Some (summed zero_form fs ks) else None

module _ (f g : Form) (distinct : Distinct f.parts) (sf : small_form f ≡ true) (sg : small_form g ≡ true) where
  abbrev parts_small : small_parts f.parts ≡ true
  parts_small = (and_parts (small_parts f.parts) (is_small f.constant) sf).0

  abbrev number_small : is_small f.constant ≡ true
  number_small = (and_parts (small_parts f.parts) (is_small f.constant) sf).1

  once_small : small_form (times_form (pos 1) f) ≡ true
  once_small = and_from (small_parts (times_parts (pos 1) f.parts)) (is_small (pos 1 *ℤ f.constant)) (ap small_parts (once f.parts) ∙ parts_small) (ap is_small (one_times f.constant) ∙ number_small)

  minus_form_small : small_form (times_form (negsuc 0) g) ≡ true
  minus_form_small =
      let a = and_parts (small_parts g.parts) (is_small g.constant) sg in
      and_from (small_parts (times_parts (negsuc 0) g.parts)) (is_small (negsuc 0 *ℤ g.constant)) (minus_small_parts g.parts a.0) (minus_small g.constant a.1)

  -- f after a number
  after_small : (n : ℤ) → is_small (n +ℤ f.constant) ≡ true → small_form (sum_form (record { parts = []; constant = n }) (times_form (pos 1) f)) ≡ true
  after_small n e =
      and_from (small_parts (with_parts [] (times_parts (pos 1) f.parts))) (is_small (n +ℤ (pos 1 *ℤ f.constant)))
      (ap small_parts (first_parts f.parts distinct) ∙ parts_small) (ap (λ x. is_small (n +ℤ x)) (one_times f.constant) ∙ e)

  zero_after : is_small (pos 0 +ℤ f.constant) ≡ true
  zero_after = let same : pos 0 +ℤ f.constant ≡ f.constant = omega (arith, ints) in ap is_small same ∙ number_small

  abbrev way : Form
  way = sum_form (sum_form zero_form (times_form (pos 1) f)) (times_form (negsuc 0) g)

  way_small : f.constant ≤ℤ pos 0 → (strict : Bool) → small_form (form_between f g strict) ≡ true → small_form way ≡ true
  way_small l true e =
      let a = and_parts (small_parts way.parts) (is_small (way.constant +ℤ negsuc 0)) e in
      let y = (and_parts (small_parts g.parts) (is_small g.constant) sg).1 in
      and_from (small_parts way.parts) (is_small way.constant) a.0
      (small_within way.constant ∙ one_behind (2 ^ 100) f.constant g.constant (sym (small_within f.constant) ∙ number_small) (sym (small_within g.constant) ∙ y) l
      (sym (small_within (way.constant +ℤ negsuc 0)) ∙ a.1))
  way_small l false e =
      let a = and_parts (small_parts way.parts) (is_small (way.constant +ℤ pos 0)) e in
      let same : way.constant ≡ way.constant +ℤ pos 0 = omega (arith, ints) in
      and_from (small_parts way.parts) (is_small way.constant) a.0 (ap is_small same ∙ a.1)

  one_small : (strict : Bool) → small_form (times_form (ones strict) one) ≡ true
  one_small true = refl
  one_small false = refl

  -- 1 is added last
  sums_last : f.constant ≤ℤ pos 0 → (strict : Bool) → small_sums zero_form (f ∷ g ∷ one ∷ []) (pos 1 ∷ negsuc 0 ∷ ones strict ∷ []) ≡ small_form (form_between f g strict)
  sums_last l strict =
      last_decides (small_form (times_form (pos 1) f)) (small_form (sum_form zero_form (times_form (pos 1) f))) (small_form (times_form (negsuc 0) g)) (small_form way)
      (small_form (times_form (ones strict) one)) (small_form (form_between f g strict)) once_small (after_small (pos 0) zero_after) minus_form_small (way_small l strict) (one_small strict)

  -- 1 is added first
  first_same : (strict : Bool) → summed zero_form (one ∷ f ∷ g ∷ []) (ones strict ∷ pos 1 ∷ negsuc 0 ∷ []) ≡ form_between f g strict
  first_same true =
      let same : ((negsuc 0 +ℤ (pos 1 *ℤ f.constant)) +ℤ (negsuc 0 *ℤ g.constant)) ≡ way.constant +ℤ negsuc 0 = omega (arith, ints) in
      ap (λ n. record { parts = way.parts; constant = n }) same
  first_same false =
      let same : way.constant ≡ way.constant +ℤ pos 0 = omega (arith, ints) in
      ap (λ n. record { parts = way.parts; constant = n }) same

  start_small : (strict : Bool) → small_form (sum_form zero_form (times_form (ones strict) one)) ≡ true
  start_small true = refl
  start_small false = refl

  start_then : pos 0 <ℤ f.constant → (strict : Bool) → small_form (sum_form (sum_form zero_form (times_form (ones strict) one)) (times_form (pos 1) f)) ≡ true
  start_then l true = after_small (negsuc 0) (small_within (negsuc 0 +ℤ f.constant) ∙ one_before (2 ^ 100) f.constant (sym (small_within f.constant) ∙ number_small) l)
  start_then l false = after_small (pos 0) zero_after

  sums_first : pos 0 <ℤ f.constant → (strict : Bool) → small_sums zero_form (one ∷ f ∷ g ∷ []) (ones strict ∷ pos 1 ∷ negsuc 0 ∷ []) ≡ small_form (form_between f g strict)
  sums_first l strict =
      last_decides (small_form (times_form (ones strict) one)) (small_form (sum_form zero_form (times_form (ones strict) one))) (small_form (times_form (pos 1) f))
      (small_form (sum_form (sum_form zero_form (times_form (ones strict) one)) (times_form (pos 1) f))) (small_form (times_form (negsuc 0) g))
      (small_form (summed zero_form (one ∷ f ∷ g ∷ []) (ones strict ∷ pos 1 ∷ negsuc 0 ∷ []))) (one_small strict) (start_small strict) once_small (λ r. start_then l strict) minus_form_small
      ∙ ap small_form (first_same strict)

  module _ (strict : Bool) (h : Form) (ks : List ℤ) (same_one : h ≡ one) where
    pub row_first : ks ≡ ones strict ∷ pos 1 ∷ negsuc 0 ∷ [] → pos 0 <ℤ f.constant → sum (h ∷ f ∷ g ∷ []) ks ≡ checked (form_between f g strict)
    row_first same l =
        ap₂ (λ h ks. sum (h ∷ f ∷ g ∷ []) ks) same_one same ∙ ap₂ (λ b r. if b then Some r else None) (sums_first l strict) (first_same strict)

    pub row_last : ks ≡ pos 1 ∷ negsuc 0 ∷ ones strict ∷ [] → f.constant ≤ℤ pos 0 → sum (f ∷ g ∷ h ∷ []) ks ≡ checked (form_between f g strict)
    row_last same l =
        ap₂ (λ h ks. sum (f ∷ g ∷ h ∷ []) ks) same_one same ∙ ap (λ b. if b then Some (form_between f g strict) else None) (sums_last l strict)
