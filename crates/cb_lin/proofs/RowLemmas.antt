-- The forms of terms, and sums of rows, keep what a row keeps.
use Rattle.std.proofs.Common.{◌≡◌, zero, suc, ℤ, pos, negsuc, ◌+ℤ◌, ◌*ℤ◌, Bool, true, false, not, List, [], ◌∷◌, map, refl, ap, arith}
use Rattle.std.proofs.lemmas.Int.{ints}
use Rattle.std.proofs.lemmas.Bool.{and_parts, and_from, false_from_ne_true, both_ways}
use Rattle.std.proofs.lemmas.Bool.Decides.{Decides-int_eq}
use Rattle.std.specs.Ordering.{int_eq}
use Rattle.cb_term.specs.declared.sign.TermSign.TheVariants.{Add, Minus, Mul}
use Rattle.cb_term.specs.Tree.{TermTree, Num, Neg, Bin}
use Rattle.cb_term.specs.Same.{same_term}
use Rattle.cb_lin.specs.declared.row.Row.{Row}
use Rattle.cb_lin.specs.Form.{Form, with_part, with_parts, sum_form, times_parts, times_form, product_form, form_of_term, summed}
use Rattle.cb_lin.specs.Small.{small_form, lacks, are_apart, none_zero}
use Rattle.cb_lin.specs.Rows.{form_of}

-- no part has this term
abbrev pub Apart : TermTree → List (TermTree × ℤ) → Type 0
Apart t [] = Unit {0}
Apart t (p ∷ ps) = (same_term p.0 t ≡ false) × Apart t ps

-- no two parts have the same term
abbrev pub Distinct : List (TermTree × ℤ) → Type 0
Distinct [] = Unit {0}
Distinct (p ∷ ps) = Apart p.0 ps × Distinct ps

-- no coefficient is 0
abbrev pub Nonzero : List (TermTree × ℤ) → Type 0
Nonzero [] = Unit {0}
Nonzero (p ∷ ps) = (int_eq p.1 (pos 0) ≡ false) × Nonzero ps

-- ---- the tests tell these

not_true : (b : Bool) → not b ≡ true → b ≡ false
not_true true e = cc
not_true false e = refl

true_not : (b : Bool) → b ≡ false → not b ≡ true
true_not b e = ap not e

lacks_apart : (t : TermTree) (ps : List (TermTree × ℤ)) → lacks t ps ≡ true → Apart t ps
lacks_apart t [] e = tt
lacks_apart t (p ∷ ps) e =
    let h = and_parts (not (same_term p.0 t)) (lacks t ps) e in (not_true (same_term p.0 t) h.0, lacks_apart t ps h.1)

apart_lacks : (t : TermTree) (ps : List (TermTree × ℤ)) → Apart t ps → lacks t ps ≡ true
apart_lacks t [] a = refl
apart_lacks t (p ∷ ps) a = and_from (not (same_term p.0 t)) (lacks t ps) (true_not (same_term p.0 t) a.0) (apart_lacks t ps a.1)

tested_distinct : (ps : List (TermTree × ℤ)) → are_apart ps ≡ true → Distinct ps
tested_distinct [] e = tt
tested_distinct (p ∷ ps) e = let h = and_parts (lacks p.0 ps) (are_apart ps) e in (lacks_apart p.0 ps h.0, tested_distinct ps h.1)

pub distinct_tested : (ps : List (TermTree × ℤ)) → Distinct ps → are_apart ps ≡ true
distinct_tested [] d = refl
distinct_tested (p ∷ ps) d = and_from (lacks p.0 ps) (are_apart ps) (apart_lacks p.0 ps d.0) (distinct_tested ps d.1)

tested_nonzero : (ps : List (TermTree × ℤ)) → none_zero ps ≡ true → Nonzero ps
tested_nonzero [] e = tt
tested_nonzero (p ∷ ps) e =
    let h = and_parts (not (int_eq p.1 (pos 0))) (none_zero ps) e in (not_true (int_eq p.1 (pos 0)) h.0, tested_nonzero ps h.1)

pub nonzero_tested : (ps : List (TermTree × ℤ)) → Nonzero ps → none_zero ps ≡ true
nonzero_tested [] d = refl
nonzero_tested (p ∷ ps) d =
    and_from (not (int_eq p.1 (pos 0))) (none_zero ps) (true_not (int_eq p.1 (pos 0)) d.0) (nonzero_tested ps d.1)

-- ---- one part more

apart_with : (t : TermTree) (q : TermTree × ℤ) (ps : List (TermTree × ℤ)) → same_term q.0 t ≡ false → Apart t ps → Apart t (with_part q ps)
apart_with t q [] n a = (n, tt)
apart_with t q (p ∷ ps) n a = by_test (apart_with t q ps n a.1) (same_term q.0 p.0) (int_eq (p.1 +ℤ q.1) (pos 0)) refl refl
  where
    by_test : Apart t (with_part q ps) → (e z : Bool) → same_term q.0 p.0 ≡ e → int_eq (p.1 +ℤ q.1) (pos 0) ≡ z → Apart t (with_part q (p ∷ ps))
    by_test go true true e f = rw (e, f) a.1
    by_test go true false e f = rw (e, f) a
    by_test go false z e f = rw e (a.0, go)

distinct_with : (q : TermTree × ℤ) (ps : List (TermTree × ℤ)) → Distinct ps → Distinct (with_part q ps)
distinct_with q [] d = (tt, tt)
distinct_with q (p ∷ ps) d = by_test (distinct_with q ps d.1) (same_term q.0 p.0) (int_eq (p.1 +ℤ q.1) (pos 0)) refl refl
  where
    by_test : Distinct (with_part q ps) → (e z : Bool) → same_term q.0 p.0 ≡ e → int_eq (p.1 +ℤ q.1) (pos 0) ≡ z → Distinct (with_part q (p ∷ ps))
    by_test go true true e f = rw (e, f) d.1
    by_test go true false e f = rw (e, f) d
    by_test go false z e f = rw e (apart_with p.0 q ps e d.0, go)

nonzero_with : (q : TermTree × ℤ) (ps : List (TermTree × ℤ)) → int_eq q.1 (pos 0) ≡ false → Nonzero ps → Nonzero (with_part q ps)
nonzero_with q [] n d = (n, tt)
nonzero_with q (p ∷ ps) n d = by_test (nonzero_with q ps n d.1) (same_term q.0 p.0) (int_eq (p.1 +ℤ q.1) (pos 0)) refl refl
  where
    by_test : Nonzero (with_part q ps) → (e z : Bool) → same_term q.0 p.0 ≡ e → int_eq (p.1 +ℤ q.1) (pos 0) ≡ z → Nonzero (with_part q (p ∷ ps))
    by_test go true true e f = rw (e, f) d.1
    by_test go true false e f = rw (e, f) (f, d.1)
    by_test go false z e f = rw e (d.0, go)

-- ---- sums and multiples

distinct_with_all : (ps qs : List (TermTree × ℤ)) → Distinct ps → Distinct (with_parts ps qs)
distinct_with_all ps [] d = d
distinct_with_all ps (q ∷ qs) d = distinct_with_all (with_part q ps) qs (distinct_with q ps d)

nonzero_with_all : (ps qs : List (TermTree × ℤ)) → Nonzero ps → Nonzero qs → Nonzero (with_parts ps qs)
nonzero_with_all ps [] d e = d
nonzero_with_all ps (q ∷ qs) d e = nonzero_with_all (with_part q ps) qs (nonzero_with q ps e.0 d) e.1

apart_times : (k : ℤ) (t : TermTree) (ps : List (TermTree × ℤ)) → Apart t ps → Apart t (times_parts k ps)
apart_times k t [] a = tt
apart_times k t (p ∷ ps) a = (a.0, apart_times k t ps a.1)

distinct_times : (k : ℤ) (ps : List (TermTree × ℤ)) → Distinct ps → Distinct (times_parts k ps)
distinct_times k [] d = tt
distinct_times k (p ∷ ps) d = (apart_times k p.0 ps d.0, distinct_times k ps d.1)

zero_test : int_eq (pos 0) (pos 0) ≡ true
zero_test = (Decides-int_eq (pos 0) (pos 0)).1 refl

product_zero : (a b : ℤ) → a *ℤ b ≡ pos 0 → int_eq a (pos 0) ≡ false → int_eq b (pos 0) ≡ false → ⊥
product_zero (pos zero) b e f g = both_ways (int_eq (pos 0) (pos 0)) f zero_test
product_zero (pos (suc m)) (pos zero) e f g = both_ways (int_eq (pos 0) (pos 0)) g zero_test
product_zero (pos (suc m)) (pos (suc n)) e f g = omega (arith, ints, e)
product_zero (pos (suc m)) (negsuc n) e f g = omega (arith, ints, e)
product_zero (negsuc m) (pos zero) e f g = both_ways (int_eq (pos 0) (pos 0)) g zero_test
product_zero (negsuc m) (pos (suc n)) e f g = omega (arith, ints, e)
product_zero (negsuc m) (negsuc n) e f g = omega (arith, ints, e)

nonzero_times : (k : ℤ) (ps : List (TermTree × ℤ)) → int_eq k (pos 0) ≡ false → Nonzero ps → Nonzero (times_parts k ps)
nonzero_times k [] n d = tt
nonzero_times k (p ∷ ps) n d =
    (false_from_ne_true (int_eq (k *ℤ p.1) (pos 0)) (λ t. product_zero k p.1 ((Decides-int_eq (k *ℤ p.1) (pos 0)).0 t) n d.0), nonzero_times k ps n d.1)

pub distinct_times_form : (k : ℤ) (f : Form) → Distinct f.parts → Distinct (times_form k f).parts
distinct_times_form k f d = by_test (int_eq k (pos 0)) refl
  where
    by_test : (z : Bool) → int_eq k (pos 0) ≡ z → Distinct (times_form k f).parts
    by_test true e = rw e tt
    by_test false e = rw e (distinct_times k f.parts d)

nonzero_times_form : (k : ℤ) (f : Form) → Nonzero f.parts → Nonzero (times_form k f).parts
nonzero_times_form k f d = by_test (int_eq k (pos 0)) refl
  where
    by_test : (z : Bool) → int_eq k (pos 0) ≡ z → Nonzero (times_form k f).parts
    by_test true e = rw e tt
    by_test false e = rw e (nonzero_times k f.parts e d)

-- ---- terms

distinct_product : (t : TermTree) (f g : Form) (ps qs : List (TermTree × ℤ)) → Distinct f.parts → Distinct g.parts → Distinct (product_form t f g ps qs).parts
distinct_product t f g ps [] d e = distinct_times_form g.constant f d
distinct_product t f g [] (q ∷ qs) d e = distinct_times_form f.constant g e
distinct_product t f g (p ∷ ps) (q ∷ qs) d e = (tt, tt)

pub distinct_form : (t : TermTree) → Distinct (form_of_term t).parts
distinct_form (Num n) = tt
distinct_form (Neg a) = distinct_times_form (negsuc 0) (form_of_term a) (distinct_form a)
distinct_form (Bin Add a b) = distinct_with_all (form_of_term a).parts (form_of_term b).parts (distinct_form a)
distinct_form (Bin Minus a b) = distinct_with_all (form_of_term a).parts (times_form (negsuc 0) (form_of_term b)).parts (distinct_form a)
distinct_form (Bin Mul a b) =
    distinct_product (Bin Mul a b) (form_of_term a) (form_of_term b) (form_of_term a).parts (form_of_term b).parts (distinct_form a) (distinct_form b)
distinct_form t = (tt, tt)

one_nonzero : int_eq (pos 1) (pos 0) ≡ false
one_nonzero = refl

nonzero_product : (t : TermTree) (f g : Form) (ps qs : List (TermTree × ℤ)) → Nonzero f.parts → Nonzero g.parts → Nonzero (product_form t f g ps qs).parts
nonzero_product t f g ps [] d e = nonzero_times_form g.constant f d
nonzero_product t f g [] (q ∷ qs) d e = nonzero_times_form f.constant g e
nonzero_product t f g (p ∷ ps) (q ∷ qs) d e = (one_nonzero, tt)

pub nonzero_form : (t : TermTree) → Nonzero (form_of_term t).parts
nonzero_form (Num n) = tt
nonzero_form (Neg a) = nonzero_times_form (negsuc 0) (form_of_term a) (nonzero_form a)
nonzero_form (Bin Add a b) = nonzero_with_all (form_of_term a).parts (form_of_term b).parts (nonzero_form a) (nonzero_form b)
nonzero_form (Bin Minus a b) =
    nonzero_with_all (form_of_term a).parts (times_form (negsuc 0) (form_of_term b)).parts (nonzero_form a) (nonzero_times_form (negsuc 0) (form_of_term b) (nonzero_form b))
nonzero_form (Bin Mul a b) =
    nonzero_product (Bin Mul a b) (form_of_term a) (form_of_term b) (form_of_term a).parts (form_of_term b).parts (nonzero_form a) (nonzero_form b)
nonzero_form t = (one_nonzero, tt)

-- ---- sums of rows

-- what a row keeps
abbrev pub AllRows : List Form → Type 0
AllRows [] = Unit {0}
AllRows (f ∷ fs) = (Distinct f.parts × Nonzero f.parts × (small_form f ≡ true)) × AllRows fs

pub rows_keep : (rows : List Row) → AllRows (map form_of rows)
rows_keep [] = tt
rows_keep (r ∷ rs) = ((tested_distinct r.parts.items r.apart, tested_nonzero r.parts.items r.nonzero, r.small), rows_keep rs)

pub distinct_summed : (f : Form) (gs : List Form) (ks : List ℤ) → Distinct f.parts → Distinct (summed f gs ks).parts
distinct_summed f [] ks d = d
distinct_summed f (g ∷ gs) [] d = d
distinct_summed f (g ∷ gs) (k ∷ ks) d =
    distinct_summed (sum_form f (times_form k g)) gs ks (distinct_with_all f.parts (times_form k g).parts d)

pub nonzero_summed : (f : Form) (gs : List Form) (ks : List ℤ) → Nonzero f.parts → AllRows gs → Nonzero (summed f gs ks).parts
nonzero_summed f [] ks d r = d
nonzero_summed f (g ∷ gs) [] d r = d
nonzero_summed f (g ∷ gs) (k ∷ ks) d r =
    nonzero_summed (sum_form f (times_form k g)) gs ks (nonzero_with_all f.parts (times_form k g).parts d (nonzero_times_form k g r.0.1)) r.1
