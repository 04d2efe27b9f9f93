-- What is made step by step is the form, exactly where no number passes the bound.
use Rattle.std.proofs.Common.{◌≡◌, zero, suc, ℤ, pos, negsuc, ◌+ℤ◌, ◌*ℤ◌, neg_ℤ, Bool, true, false, ◌&&◌, cond, List, [], ◌∷◌, map, Option, Some, None, refl, ap, sym, ◌∙◌, ◌⊎◌, inl, inr, arith}
use Rattle.std.proofs.lemmas.Int.{ints}
use Rattle.std.proofs.lemmas.Bool.{and_parts, and_from, and_left, and_right, both_ways}
use Rattle.std.proofs.lemmas.Bool.Decides.{Decides-int_eq}
use Rattle.std.proofs.lemmas.Option.{cond_some}
use Rattle.std.specs.Ordering.{int_eq}
use Rattle.cb_term.specs.declared.sign.TermSign.TheVariants.{Add, Minus, Mul}
use Rattle.cb_term.specs.Tree.{TermTree, Num, Bin, Neg}
use Rattle.cb_term.specs.Same.{same_term}
use Rattle.cb_lin.specs.declared.row.Row.{Row}
use Rattle.cb_lin.specs.Form.{Form, zero_form, with_part, with_parts, sum_form, times_parts, times_form, product_form, form_of_term, summed}
use Rattle.cb_lin.specs.Small.{is_small, small_parts, small_form, small_all, small_sums, are_apart, none_zero}
use Rattle.cb_lin.specs.Steps.{add_part, and_then, plus_parts, form, plus, coefficient_then, scale_parts, scaled, product, join, linear_of, combine_from}
use Rattle.cb_lin.specs.Rows.{form_of}
use Rattle.cb_lin.proofs.Sameness.{same_both}
use Rattle.cb_lin.proofs.RowLemmas.{Apart, Distinct, AllRows, distinct_tested, nonzero_tested, distinct_times_form, distinct_form, nonzero_form, rows_keep, distinct_summed, nonzero_summed}

-- a part with this term passes the bound
abbrev Big : TermTree → List (TermTree × ℤ) → Type 0
Big t [] = ⊥
Big t (p ∷ ps) = ((same_term t p.0 ≡ true) × (is_small p.1 ≡ false)) ⊎ Big t ps

big_not_small : (t : TermTree) (ps : List (TermTree × ℤ)) → Big t ps → small_parts ps ≡ false
big_not_small t [] b = absurd b
big_not_small t (p ∷ ps) (inl h) = and_left (is_small p.1) (small_parts ps) h.1
big_not_small t (p ∷ ps) (inr b) = and_right (is_small p.1) (small_parts ps) (big_not_small t ps b)

zero_small : (n : ℤ) → int_eq n (pos 0) ≡ true → is_small n ≡ true
zero_small n e = rw ((Decides-int_eq n (pos 0)).0 e) refl

abbrev Agrees : TermTree × ℤ → List (TermTree × ℤ) → Type 0
Agrees q ps = ((add_part q ps ≡ Some (with_part q ps)) × (small_parts (with_part q ps) ≡ true)) ⊎ ((add_part q ps ≡ None) × Big q.0 (with_part q ps))

agrees : (q : TermTree × ℤ) (ps : List (TermTree × ℤ)) → small_parts ps ≡ true → is_small q.1 ≡ true → Agrees q ps
agrees q [] h s = inl (refl, and_from (is_small q.1) true s refl)
agrees q (p ∷ ps) h s =
    let both = and_parts (is_small p.1) (small_parts ps) h in
    by_test both (agrees q ps both.1 s) (same_term q.0 p.0) refl
  where
    by_size : (small_parts ps ≡ true) → same_term q.0 p.0 ≡ true → (b z : Bool) → is_small (p.1 +ℤ q.1) ≡ b → int_eq (p.1 +ℤ q.1) (pos 0) ≡ z → Agrees q (p ∷ ps)
    by_size t e true true b z = inl (rw (e, b, z) refl, rw (e, z) t)
    by_size t e true false b z = inl (rw (e, b, z) refl, rw (e, z) (and_from (is_small (p.1 +ℤ q.1)) (small_parts ps) b t))
    by_size t e false true b z = absurd (both_ways (is_small (p.1 +ℤ q.1)) b (zero_small (p.1 +ℤ q.1) z))
    by_size t e false false b z = inr (rw (e, b) refl, rw (e, z) (inl (e, b)))

    by_test : ((is_small p.1 ≡ true) × (small_parts ps ≡ true)) → Agrees q ps → (b : Bool) → same_term q.0 p.0 ≡ b → Agrees q (p ∷ ps)
    by_test both go true e = by_size both.1 e (is_small (p.1 +ℤ q.1)) (int_eq (p.1 +ℤ q.1) (pos 0)) refl refl
    by_test both (inl go) false e = inl (rw (e, go.0) refl, rw e (and_from (is_small p.1) (small_parts (with_part q ps)) both.0 go.1))
    by_test both (inr go) false e = inr (rw (e, go.0) refl, rw e (inr go.1))

big_stays : (t : TermTree) (q : TermTree × ℤ) (ps : List (TermTree × ℤ)) → same_term q.0 t ≡ false → Big t ps → Big t (with_part q ps)
big_stays t q [] n b = absurd b
big_stays t q (p ∷ ps) n b = by_test (big_stays t q ps n) (same_term q.0 p.0) (int_eq (p.1 +ℤ q.1) (pos 0)) refl refl b
  where
    by_test : (Big t ps → Big t (with_part q ps)) → (e z : Bool) → same_term q.0 p.0 ≡ e → int_eq (p.1 +ℤ q.1) (pos 0) ≡ z →
        ((same_term t p.0 ≡ true) × (is_small p.1 ≡ false)) ⊎ Big t ps → Big t (with_part q (p ∷ ps))
    by_test go true z e f (inl h) = absurd (both_ways (same_term q.0 t) n (same_both q.0 t p.0 e h.0))
    by_test go true true e f (inr b) = rw (e, f) b
    by_test go true false e f (inr b) = rw (e, f) (inr b)
    by_test go false z e f (inl h) = rw e (inl h)
    by_test go false z e f (inr b) = rw e (inr (go b))

big_stays_all : (t : TermTree) (ps qs : List (TermTree × ℤ)) → Apart t qs → Big t ps → Big t (with_parts ps qs)
big_stays_all t ps [] a b = b
big_stays_all t ps (q ∷ qs) a b = big_stays_all t (with_part q ps) qs a.1 (big_stays t q ps a.0 b)

plus_parts_exact : (ps qs : List (TermTree × ℤ)) → small_parts ps ≡ true → small_parts qs ≡ true → Distinct qs →
    plus_parts ps qs ≡ cond (small_parts (with_parts ps qs)) (Some (with_parts ps qs)) None
plus_parts_exact ps [] s t d = rw s refl
plus_parts_exact ps (q ∷ qs) s t d =
    let both = and_parts (is_small q.1) (small_parts qs) t in
    by_cases both.1 (λ ps s. plus_parts_exact ps qs s both.1 d.1) (agrees q ps s both.0)
  where
    by_cases : small_parts qs ≡ true → ((ps : List (TermTree × ℤ)) → small_parts ps ≡ true → plus_parts ps qs ≡ cond (small_parts (with_parts ps qs)) (Some (with_parts ps qs)) None) → Agrees q ps →
        and_then (add_part q ps) (λ r. plus_parts r qs) ≡ cond (small_parts (with_parts (with_part q ps) qs)) (Some (with_parts (with_part q ps) qs)) None
    by_cases t go (inl a) = rw a.0 (go (with_part q ps) a.1)
    by_cases t go (inr a) = rw (a.0, big_not_small q.0 (with_parts (with_part q ps) qs) (big_stays_all q.0 (with_part q ps) qs d.0 a.1)) refl

-- ---- forms

abbrev checked : Form → Option Form
checked f = cond (small_form f) (Some f) None

form_checked : (b c : Bool) (ps : List (TermTree × ℤ)) (n : ℤ) → form (cond b (Some ps) None) (cond c (Some n) None) ≡ cond (b && c) (Some (record { parts = ps; constant = n })) None
form_checked true true ps n = refl
form_checked true false ps n = refl
form_checked false c ps n = refl

coefficient_checked : (b c : Bool) (t : TermTree) (n : ℤ) (ps : List (TermTree × ℤ)) → coefficient_then t (cond b (Some n) None) (cond c (Some ps) None) ≡ cond (b && c) (Some ((t, n) ∷ ps)) None
coefficient_checked true true t n ps = refl
coefficient_checked true false t n ps = refl
coefficient_checked false c t n ps = refl

scale_parts_exact : (k : ℤ) (ps : List (TermTree × ℤ)) → scale_parts k ps ≡ cond (small_parts (times_parts k ps)) (Some (times_parts k ps)) None
scale_parts_exact k [] = refl
scale_parts_exact k (p ∷ ps) = rw (scale_parts_exact k ps) (coefficient_checked (is_small (k *ℤ p.1)) (small_parts (times_parts k ps)) p.0 (k *ℤ p.1) (times_parts k ps))

scaled_exact : (k : ℤ) (f : Form) → scaled k f ≡ checked (times_form k f)
scaled_exact k f = by_test (int_eq k (pos 0)) refl
  where
    by_test : (z : Bool) → int_eq k (pos 0) ≡ z → scaled k f ≡ checked (times_form k f)
    by_test true e = rw e refl
    by_test false e = rw (e, scale_parts_exact k f.parts) (form_checked (small_parts (times_parts k f.parts)) (is_small (k *ℤ f.constant)) (times_parts k f.parts) (k *ℤ f.constant))

plus_exact : (f g : Form) → small_form f ≡ true → small_form g ≡ true → Distinct g.parts → plus f g ≡ checked (sum_form f g)
plus_exact f g s t d =
    let a = and_parts (small_parts f.parts) (is_small f.constant) s in
    let b = and_parts (small_parts g.parts) (is_small g.constant) t in
    rw (plus_parts_exact f.parts g.parts a.0 b.0 d) (form_checked (small_parts (with_parts f.parts g.parts)) (is_small (f.constant +ℤ g.constant)) (with_parts f.parts g.parts) (f.constant +ℤ g.constant))

minus_one : (k : ℤ) → negsuc 0 *ℤ k ≡ neg_ℤ k
minus_one k = omega (arith, ints)

is_small_neg : (n : ℤ) → is_small (neg_ℤ n) ≡ is_small n
is_small_neg (pos zero) = refl
is_small_neg (pos (suc n)) = refl
is_small_neg (negsuc n) = refl

small_minus : (ps : List (TermTree × ℤ)) → small_parts ps ≡ true → small_parts (times_parts (negsuc 0) ps) ≡ true
small_minus [] s = refl
small_minus (p ∷ ps) s =
    let a = and_parts (is_small p.1) (small_parts ps) s in
    and_from (is_small (negsuc 0 *ℤ p.1)) (small_parts (times_parts (negsuc 0) ps)) (ap is_small (minus_one p.1) ∙ is_small_neg p.1 ∙ a.0) (small_minus ps a.1)

small_minus_form : (f : Form) → small_form f ≡ true → small_form (times_form (negsuc 0) f) ≡ true
small_minus_form f s =
    let a = and_parts (small_parts f.parts) (is_small f.constant) s in
    and_from (small_parts (times_parts (negsuc 0) f.parts)) (is_small (negsuc 0 *ℤ f.constant)) (small_minus f.parts a.0) (ap is_small (minus_one f.constant) ∙ is_small_neg f.constant ∙ a.1)

product_exact : (t : TermTree) (f g : Form) (ps qs : List (TermTree × ℤ)) → product t f g ps qs ≡ checked (product_form t f g ps qs)
product_exact t f g ps [] = scaled_exact g.constant f
product_exact t f g [] (q ∷ qs) = scaled_exact f.constant g
product_exact t f g (p ∷ ps) (q ∷ qs) = refl

minus_exact : (f g : Form) → small_form f ≡ true → small_form g ≡ true → Distinct g.parts →
    and_then (scaled (negsuc 0) g) (plus f) ≡ checked (sum_form f (times_form (negsuc 0) g))
minus_exact f g a b d =
    let m = small_minus_form g b in
    rw (scaled_exact (negsuc 0) g, m) (plus_exact f (times_form (negsuc 0) g) a m (distinct_times_form (negsuc 0) g d))

-- ---- terms

third : (x y z : Bool) → (x && (y && z)) ≡ true → z ≡ true
third x y z h = (and_parts y z (and_parts x (y && z) h).1).1

small_all_form : (t : TermTree) → small_all t ≡ true → small_form (form_of_term t) ≡ true
small_all_form (Num n) h = h
small_all_form (Neg a) h = (and_parts (small_all a) (small_form (form_of_term (Neg a))) h).1
small_all_form (Bin Add a b) h = third (small_all a) (small_all b) (small_form (form_of_term (Bin Add a b))) h
small_all_form (Bin Minus a b) h = third (small_all a) (small_all b) (small_form (form_of_term (Bin Minus a b))) h
small_all_form (Bin Mul a b) h = third (small_all a) (small_all b) (small_form (form_of_term (Bin Mul a b))) h
small_all_form t h = refl

-- both sides, and then the form of the whole
both_checked : (x y : Bool) (f g h : Form) (j : Form → Form → Option Form) → (x ≡ true → y ≡ true → j f g ≡ checked h) →
    and_then (cond x (Some f) None) (λ f. and_then (cond y (Some g) None) (j f)) ≡ cond (x && (y && small_form h)) (Some h) None
both_checked true true f g h j e = e refl refl
both_checked true false f g h j e = refl
both_checked false y f g h j e = refl

one_checked : (x : Bool) (f h : Form) (j : Form → Option Form) → (x ≡ true → j f ≡ checked h) →
    and_then (cond x (Some f) None) j ≡ cond (x && small_form h) (Some h) None
one_checked true f h j e = e refl
one_checked false f h j e = refl

pub linear_exact : (t : TermTree) → linear_of t ≡ cond (small_all t) (Some (form_of_term t)) None
linear_exact (Num n) = form_checked true (is_small n) [] n
linear_exact (Neg a) =
    rw (linear_exact a) (one_checked (small_all a) (form_of_term a) (form_of_term (Neg a)) (scaled (negsuc 0)) (λ _. scaled_exact (negsuc 0) (form_of_term a)))
linear_exact (Bin Add a b) =
    rw (linear_exact a, linear_exact b) (both_checked (small_all a) (small_all b) (form_of_term a) (form_of_term b) (form_of_term (Bin Add a b)) (join Add (Bin Add a b))
    (λ h k. plus_exact (form_of_term a) (form_of_term b) (small_all_form a h) (small_all_form b k) (distinct_form b)))
linear_exact (Bin Minus a b) =
    rw (linear_exact a, linear_exact b) (both_checked (small_all a) (small_all b) (form_of_term a) (form_of_term b) (form_of_term (Bin Minus a b)) (join Minus (Bin Minus a b))
    (λ h k. minus_exact (form_of_term a) (form_of_term b) (small_all_form a h) (small_all_form b k) (distinct_form b)))
linear_exact (Bin Mul a b) =
    rw (linear_exact a, linear_exact b) (both_checked (small_all a) (small_all b) (form_of_term a) (form_of_term b) (form_of_term (Bin Mul a b)) (join Mul (Bin Mul a b))
    (λ h k. product_exact (Bin Mul a b) (form_of_term a) (form_of_term b) (form_of_term a).parts (form_of_term b).parts))
linear_exact t = refl

-- what `linear_of` answers is a row
pub linear_keeps : (t : TermTree) (f : Form) → Some f ≡ linear_of t → (are_apart f.parts ≡ true) × (none_zero f.parts ≡ true) × (small_form f ≡ true)
linear_keeps t f e =
    let h = cond_some (small_all t) (form_of_term t) f (sym (e ∙ linear_exact t)) in
    rw (← h.1) (distinct_tested (form_of_term t).parts (distinct_form t), nonzero_tested (form_of_term t).parts (nonzero_form t), small_all_form t h.0)

-- ---- sums of rows

combine_exact : (f : Form) (gs : List Form) (ks : List ℤ) → small_form f ≡ true → AllRows gs →
    combine_from f gs ks ≡ cond (small_sums f gs ks) (Some (summed f gs ks)) None
combine_exact f [] ks s r = refl
combine_exact f (g ∷ gs) [] s r = refl
combine_exact f (g ∷ gs) (k ∷ ks) s r =
    rw (scaled_exact k g) (by_test (small_form (times_form k g)) (small_form (sum_form f (times_form k g))) refl refl (λ s. combine_exact (sum_form f (times_form k g)) gs ks s r.1))
  where
    by_test : (x y : Bool) → small_form (times_form k g) ≡ x → small_form (sum_form f (times_form k g)) ≡ y →
        (small_form (sum_form f (times_form k g)) ≡ true → combine_from (sum_form f (times_form k g)) gs ks ≡ cond (small_sums (sum_form f (times_form k g)) gs ks) (Some (summed (sum_form f (times_form k g)) gs ks)) None) →
        and_then (cond x (Some (times_form k g)) None) (λ h. and_then (plus f h) (λ r. combine_from r gs ks)) ≡ cond (x && (y && small_sums (sum_form f (times_form k g)) gs ks)) (Some (summed (sum_form f (times_form k g)) gs ks)) None
    by_test true true h j go = rw (plus_exact f (times_form k g) s h (distinct_times_form k g r.0.0), j) (go j)
    by_test true false h j go = rw (plus_exact f (times_form k g) s h (distinct_times_form k g r.0.0), j) refl
    by_test false y h j go = refl

small_summed : (f : Form) (gs : List Form) (ks : List ℤ) → small_form f ≡ true → small_sums f gs ks ≡ true → small_form (summed f gs ks) ≡ true
small_summed f [] ks s e = s
small_summed f (g ∷ gs) [] s e = s
small_summed f (g ∷ gs) (k ∷ ks) s e =
    let h = and_parts (small_form (times_form k g)) (small_form (sum_form f (times_form k g)) && small_sums (sum_form f (times_form k g)) gs ks) e in
    let j = and_parts (small_form (sum_form f (times_form k g))) (small_sums (sum_form f (times_form k g)) gs ks) h.1 in
    small_summed (sum_form f (times_form k g)) gs ks j.0 j.1

module _ (rows : List Row) (ks : List ℤ) where
  pub rows_exact : combine_from zero_form (map form_of rows) ks ≡ cond (small_sums zero_form (map form_of rows) ks) (Some (summed zero_form (map form_of rows) ks)) None
  rows_exact = combine_exact zero_form (map form_of rows) ks refl (rows_keep rows)

  pub rows_keep_all : (f : Form) → Some f ≡ combine_from zero_form (map form_of rows) ks → (are_apart f.parts ≡ true) × (none_zero f.parts ≡ true) × (small_form f ≡ true)
  rows_keep_all f e =
      let gs = map form_of rows in
      let h = cond_some (small_sums zero_form gs ks) (summed zero_form gs ks) f (sym (e ∙ rows_exact)) in
      rw (← h.1) (
        distinct_tested (summed zero_form gs ks).parts (distinct_summed zero_form gs ks tt),
        nonzero_tested (summed zero_form gs ks).parts (nonzero_summed zero_form gs ks tt (rows_keep rows)),
        small_summed zero_form gs ks refl h.0,
      )
