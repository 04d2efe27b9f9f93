-- A truth is told exactly where no name, no loose variable and no quantifier stands in the formula, and its numbers and sets are small.
use Rattle.std.proofs.Common.{◌≡◌, ◌∙◌, ◌↔◌, ℕ, ℤ, Bool, true, false, not, ◌&&◌, ◌||◌, List, [], ◌∷◌, Option, Some, None, IsTrue, refl, sym, ap, subst, if◌then◌else◌, zero, suc, ◌≤◌, arith}
use Rattle.std.specs.Prelude.{nat_le, length, int_lt, IsSome}
use Rattle.std.specs.Ordering.{int_eq}
use Rattle.std.proofs.lemmas.Bool.{leb-true, le-leb}
use Rattle.cb_term.specs.declared.value.Value.{Value}
use Rattle.cb_term.specs.declared.value.Value.TheVariants as value
use Rattle.cb_term.specs.Tree.{TermTree, Var, Bound, Num, Truth, Elem, Bin, Neg, Card, Listed, Elems, Truths, Test, TermTrees, End, More, FormulaTree, True, False, Rel, Not, And, Or, Implies, Iff, Every, Exist}
use Rattle.cb_term.specs.Sets.{insert, upwards}
use Rattle.cb_term.specs.Values.{Look, nothing, item, bin, neg, card, rel, same_truth, size_of_set}
use Rattle.cb_term.specs.Holds.{Meets, MeetsAll, IsValue}
use Rattle.cb_term.proofs.HoldsLemmas.{true_stable, meets_mono, all_mono, all_stable, meets_stable, meets_at, meets_gives}
use Rattle.cb_spec.specs.TypedTerms.{is_membership, is_free_range, Unless}
use Rattle.cb_eval.specs.ClosedTruth.{is_small, kept, kept_set, kept_unless, with_one, with_two, closed_value, closed_items, closed_truth}
use Rattle.cb_eval.specs.Told.{is_small_value, HasSmallValue, IsToldTerm, AreToldTerms, IsTold}
use Rattle.cb_eval.proofs.ClosedLemmas.{value_exact, items_exact}
use Rattle.cb_eval.proofs.SoundLemmas.{value_sound, items_sound}
use Rattle.cb_eval.proofs.TellLemmas.{one_tells, two_tells}

-- ---- what is kept is small, and what is small is kept

if_true : {A : Type 0} (b : Bool) (v w : A) → (if b then Some v else None) ≡ Some w → b ≡ true
if_true true v w e = refl
if_true false v w e = cc

kept_small : (v w : Value) → kept v ≡ Some w → IsTrue (is_small_value v)
kept_small (value.Int n) w e = if_true (is_small n) _ _ e
kept_small (value.Truth b) w e = refl
kept_small (value.Elem k) w e = refl
kept_small (value.Set xs) w e = if_true (nat_le (length xs) 256) _ _ e

small_kept : (v : Value) → IsTrue (is_small_value v) → kept v ≡ Some v
small_kept (value.Int n) e = ap (λ b. if b then Some (value.Int n) else None) e
small_kept (value.Truth b) e = refl
small_kept (value.Elem k) e = refl
small_kept (value.Set xs) e = ap (λ b. if b then Some (value.Set xs) else None) e

set_kept : (xs : List ℤ) → IsTrue (nat_le (length xs) 256) → kept_set xs ≡ Some xs
set_kept xs e = ap (λ b. if b then Some xs else None) e

one_some : {A B : Type 0} (o : Option A) (g : A → Option B) (a : A) (c : B) → o ≡ Some a → g a ≡ Some c → with_one o g ≡ Some c
one_some o g a c e f = ap (λ z. with_one z g) e ∙ f

two_some : {A B C : Type 0} (o : Option A) (p : Option B) (g : A → B → Option C) (a : A) (b : B) (c : C) → o ≡ Some a → p ≡ Some b → g a b ≡ Some c → with_two o p g ≡ Some c
two_some o p g a b c e f h = (λ i. with_two (e i) (f i) g) ∙ h

abbrev items_of : Value → List ℤ
items_of (value.Set xs) = xs
items_of v = []

-- a set is no smaller for one item more
more_items : (x : ℤ) (xs : List ℤ) → length xs ≤ length (insert x xs)
more_items x [] = omega arith
more_items x (y ∷ ys) = by (int_lt x y) (int_eq x y) (more_items x ys) where
  by : (less equal : Bool) → length ys ≤ length (insert x ys) → suc (length ys) ≤ length (if less then x ∷ (y ∷ ys) else (if equal then y ∷ ys else y ∷ insert x ys))
  by true equal more = omega arith
  by false true more = omega arith
  by false false more = omega (arith, more)

fewer_small : (x : ℤ) (xs : List ℤ) → IsTrue (nat_le (length (insert x xs)) 256) → IsTrue (nat_le (length xs) 256)
fewer_small x xs e = le-leb _ _ (omega (arith, more_items x xs, leb-true _ _ e))

module _ (sizes : List ℕ) where
  abbrev no_names : Look
  no_names x = nothing

  value_of : (look : Look) (r : Bool) (t : TermTree) (v : Value) → closed_value sizes r t ≡ Some v → IsValue sizes look t [] v
  value_of look r t v e = value_sound sizes look false r [] t v (value_exact sizes look [] r t ∙ e)

  items_are : (look : Look) (ts : TermTrees) (xs : List ℤ) → closed_items sizes ts ≡ Some xs → IsValue sizes look (Listed ts) [] (value.Set xs)
  items_are look ts xs e = all_mono sizes look ts [] _ _ (λ ys d. ap value.Set d) (items_sound sizes look false [] ts xs (items_exact sizes look [] ts ∙ e))

  -- ---- from the answer to what is asked of the formula

  bin_small : (look : Look) (s : _) (a b : TermTree) (u w : Value) → IsValue sizes look a [] u → IsValue sizes look b [] w →
      IsTrue (is_small_value (bin s u w)) → Meets sizes look (Bin s a b) [] (λ v. IsTrue (is_small_value v))
  bin_small look s a b u w iu iw small =
      meets_at sizes look a [] u (λ x. Meets sizes look b [] (λ y. IsTrue (is_small_value (bin s x y)))) iu
      (meets_at sizes look b [] w (λ y. IsTrue (is_small_value (bin s u y))) iw small)

  unless_small : (free : Bool) (s : _) (a b : TermTree) (u w v : Value) → closed_value sizes false a ≡ Some u → closed_value sizes false b ≡ Some w →
      kept_unless free (bin s u w) ≡ Some v → Unless free (HasSmallValue sizes (Bin s a b))
  unless_small true s a b u w v eu ew g = tt
  unless_small false s a b u w v eu ew g = λ look.
      bin_small look s a b u w (value_of look false a u eu) (value_of look false b w ew) (kept_small (bin s u w) v g)

  items_small : (ts : TermTrees) (xs : List ℤ) → closed_items sizes ts ≡ Some xs → IsTrue (nat_le (length xs) 256)
  items_small End xs e = subst (λ zs. IsTrue (nat_le (length zs) 256)) (same_of [] xs e) refl where
    same_of : (ys zs : List ℤ) → Some ys ≡ Some zs → ys ≡ zs
    same_of ys zs e = cc
  items_small (More t ts) xs e = two_tells (closed_value sizes false t) (closed_items sizes ts) _ xs (IsTrue (nat_le (length xs) 256)) e (λ u zs eu ez g.
      subst (λ ys. IsTrue (nat_le (length ys) 256)) (kept_is (insert (item u) zs) g) (if_true (nat_le (length (insert (item u) zs)) 256) _ _ g)) where
        kept_is : (ys : List ℤ) → kept_set ys ≡ Some xs → ys ≡ xs
        kept_is ys g = by (nat_le (length ys) 256) g where
          by : (b : Bool) → (if b then Some ys else None) ≡ Some xs → ys ≡ xs
          by true g = cc
          by false g = cc

  mutual
    told_value : (r : Bool) (t : TermTree) (v : Value) → closed_value sizes r t ≡ Some v → IsToldTerm sizes r t
    told_value r (Var x) v e = cc
    told_value r (Bound j) v e = cc
    told_value r (Num n) v e = λ look. kept_small (value.Int n) v e
    told_value r (Truth b) v e = tt
    told_value r (Elem s i) v e = tt
    told_value r (Bin s a b) v e = two_tells (closed_value sizes false a) (closed_value sizes false b) _ v (IsToldTerm sizes r (Bin s a b)) e (λ u w eu ew g.
        (told_value false a u eu, told_value false b w ew, unless_small (is_free_range r s) s a b u w v eu ew g))
    told_value r (Neg a) v e = one_tells (closed_value sizes false a) _ v (IsToldTerm sizes r (Neg a)) e (λ u eu g.
        (told_value false a u eu, λ look. meets_at sizes look a [] u (λ x. IsTrue (is_small_value (neg x))) (value_of look false a u eu) (kept_small (neg u) v g)))
    told_value r (Card a) v e = one_tells (closed_value sizes false a) _ v (IsToldTerm sizes r (Card a)) e (λ u eu g.
        (told_value false a u eu, λ look. meets_at sizes look a [] u (λ x. IsTrue (is_small_value (card x))) (value_of look false a u eu) (kept_small (card u) v g)))
    told_value r (Listed ts) v e = one_tells (closed_items sizes ts) _ v (IsToldTerm sizes r (Listed ts)) e (λ xs ex g.
        (told_items ts xs ex, λ look. meets_at sizes look (Listed ts) [] (value.Set xs) (λ x. IsTrue (is_small_value x)) (items_are look ts xs ex) (items_small ts xs ex)))
    told_value r (Elems s) v e = λ look. kept_small (value.Set _) v e
    told_value r Truths v e = tt
    told_value r (Test f) v e = one_tells (closed_truth sizes f) _ v (IsToldTerm sizes r (Test f)) e (λ b eb g. told_truth f b eb)

    told_items : (ts : TermTrees) (xs : List ℤ) → closed_items sizes ts ≡ Some xs → AreToldTerms sizes ts
    told_items End xs e = tt
    told_items (More t ts) xs e = two_tells (closed_value sizes false t) (closed_items sizes ts) _ xs (AreToldTerms sizes (More t ts)) e (λ u zs eu ez g.
        (told_value false t u eu, told_items ts zs ez))

    told_truth : (f : FormulaTree) (b : Bool) → closed_truth sizes f ≡ Some b → IsTold sizes f
    told_truth True b e = tt
    told_truth False b e = tt
    told_truth (Rel s x y) b e = two_tells (closed_value sizes false x) (closed_value sizes (is_membership s) y) _ b (IsTold sizes (Rel s x y)) e (λ u w eu ew g.
        (told_value false x u eu, told_value (is_membership s) y w ew))
    told_truth (Not f) b e = one_tells (closed_truth sizes f) _ b (IsTold sizes (Not f)) e (λ p ep g. told_truth f p ep)
    told_truth (And f h) b e = two_tells (closed_truth sizes f) (closed_truth sizes h) _ b (IsTold sizes (And f h)) e (λ p q ep eq g. (told_truth f p ep, told_truth h q eq))
    told_truth (Or f h) b e = two_tells (closed_truth sizes f) (closed_truth sizes h) _ b (IsTold sizes (Or f h)) e (λ p q ep eq g. (told_truth f p ep, told_truth h q eq))
    told_truth (Implies f h) b e = two_tells (closed_truth sizes f) (closed_truth sizes h) _ b (IsTold sizes (Implies f h)) e (λ p q ep eq g. (told_truth f p ep, told_truth h q eq))
    told_truth (Iff f h) b e = two_tells (closed_truth sizes f) (closed_truth sizes h) _ b (IsTold sizes (Iff f h)) e (λ p q ep eq g. (told_truth f p ep, told_truth h q eq))
    told_truth (Every x kind f) b e = cc
    told_truth (Exist x kind f) b e = cc

  -- ---- and back

  abbrev Answered : Bool → TermTree → Type 0
  Answered r t = (v : Value) × (closed_value sizes r t ≡ Some v)

  small_at : (t : TermTree) (v : Value) → IsValue sizes no_names t [] v → HasSmallValue sizes t → IsTrue (is_small_value v)
  small_at t v is small = meets_gives sizes no_names t [] v (λ x. IsTrue (is_small_value x)) (true_stable _) is (small no_names)

  bin_is : (s : _) (a b : TermTree) (u w : Value) → closed_value sizes false a ≡ Some u → closed_value sizes false b ≡ Some w → IsValue sizes no_names (Bin s a b) [] (bin s u w)
  bin_is s a b u w eu ew =
      meets_at sizes no_names a [] u (λ x. Meets sizes no_names b [] (λ y. bin s x y ≡ bin s u w)) (value_of no_names false a u eu)
      (meets_at sizes no_names b [] w (λ y. bin s u y ≡ bin s u w) (value_of no_names false b w ew) refl)

  bin_answered : (free : Bool) (s : _) (a b : TermTree) (u w : Value) → closed_value sizes false a ≡ Some u → closed_value sizes false b ≡ Some w →
      Unless free (HasSmallValue sizes (Bin s a b)) → kept_unless free (bin s u w) ≡ Some (bin s u w)
  bin_answered true s a b u w eu ew small = refl
  bin_answered false s a b u w eu ew small = small_kept (bin s u w) (small_at (Bin s a b) (bin s u w) (bin_is s a b u w eu ew) small)

  abbrev AreSmallItems : TermTrees → Type 0
  AreSmallItems ts = MeetsAll sizes no_names ts [] (λ xs. IsTrue (nat_le (length xs) 256))

  mutual
    value_told : (r : Bool) (t : TermTree) → IsToldTerm sizes r t → Answered r t
    value_told r (Var x) h = absurd h
    value_told r (Bound j) h = absurd h
    value_told r (Num n) h = (value.Int n, small_kept (value.Int n) (h no_names))
    value_told r (Truth b) h = (value.Truth b, refl)
    value_told r (Elem s i) h = (value.Elem i, refl)
    value_told r (Bin s a b) h =
        let u = value_told false a h.0 in
        let w = value_told false b h.1 in
        (bin s u.0 w.0, two_some _ _ _ u.0 w.0 _ u.1 w.1 (bin_answered (is_free_range r s) s a b u.0 w.0 u.1 w.1 h.2))
    value_told r (Neg a) h =
        let u = value_told false a h.0 in (
          neg u.0,
          one_some _ _ u.0 _ u.1 (small_kept (neg u.0) (small_at (Neg a) (neg u.0)
              (meets_at sizes no_names a [] u.0 (λ x. neg x ≡ neg u.0) (value_of no_names false a u.0 u.1) refl) h.1)),
        )
    value_told r (Card a) h =
        let u = value_told false a h.0 in (
          card u.0,
          one_some _ _ u.0 _ u.1 (small_kept (card u.0) (small_at (Card a) (card u.0)
              (meets_at sizes no_names a [] u.0 (λ x. card x ≡ card u.0) (value_of no_names false a u.0 u.1) refl) h.1)),
        )
    value_told r (Listed ts) h =
        let xs = items_told ts h.0 (h.1 no_names) in
        (value.Set xs.0, one_some _ _ xs.0 _ xs.1 refl)
    value_told r (Elems s) h = (value.Set _, small_kept (value.Set _) (h no_names))
    value_told r Truths h = (value.Set _, refl)
    value_told r (Test f) h =
        let b = truth_told f h in
        (value.Truth b.0, one_some _ _ b.0 _ b.1 refl)

    items_told : (ts : TermTrees) → AreToldTerms sizes ts → AreSmallItems ts → (xs : List ℤ) × (closed_items sizes ts ≡ Some xs)
    items_told End h small = ([], refl)
    items_told (More t ts) h small =
        let u = value_told false t h.0 in
        let whole : MeetsAll sizes no_names ts [] (λ xs. IsTrue (nat_le (length (insert (item u.0) xs)) 256)) =
        meets_gives sizes no_names t [] u.0 (λ v. MeetsAll sizes no_names ts [] (λ xs. IsTrue (nat_le (length (insert (item v) xs)) 256)))
        (all_stable sizes no_names ts [] _ (λ xs. true_stable _)) (value_of no_names false t u.0 u.1) small in
        let rest = items_told ts h.1 (all_mono sizes no_names ts [] _ _ (λ xs. fewer_small (item u.0) xs) whole) in
        let kept_all = meets_gives sizes no_names (Listed ts) [] (value.Set rest.0) (λ v. IsTrue (nat_le (length (insert (item u.0) (items_of v))) 256))
        (true_stable _) (items_are no_names ts rest.0 rest.1) whole in
        (insert (item u.0) rest.0, two_some _ _ _ u.0 rest.0 _ u.1 rest.1 (set_kept (insert (item u.0) rest.0) kept_all))

    truth_told : (f : FormulaTree) → IsTold sizes f → (b : Bool) × (closed_truth sizes f ≡ Some b)
    truth_told True h = (true, refl)
    truth_told False h = (false, refl)
    truth_told (Rel s x y) h =
        let u = value_told false x h.0 in
        let w = value_told (is_membership s) y h.1 in
        (rel s u.0 w.0, two_some _ _ _ u.0 w.0 _ u.1 w.1 refl)
    truth_told (Not f) h = let p = truth_told f h in (not p.0, one_some _ _ p.0 _ p.1 refl)
    truth_told (And f g) h = let p = truth_told f h.0 in let q = truth_told g h.1 in (p.0 && q.0, two_some _ _ _ p.0 q.0 _ p.1 q.1 refl)
    truth_told (Or f g) h = let p = truth_told f h.0 in let q = truth_told g h.1 in (p.0 || q.0, two_some _ _ _ p.0 q.0 _ p.1 q.1 refl)
    truth_told (Implies f g) h = let p = truth_told f h.0 in let q = truth_told g h.1 in (not p.0 || q.0, two_some _ _ _ p.0 q.0 _ p.1 q.1 refl)
    truth_told (Iff f g) h = let p = truth_told f h.0 in let q = truth_told g h.1 in (same_truth p.0 q.0, two_some _ _ _ p.0 q.0 _ p.1 q.1 refl)
    truth_told (Every x kind f) h = absurd h
    truth_told (Exist x kind f) h = absurd h

pub told_exactly : (sizes : List ℕ) (f : FormulaTree) → IsTold sizes f ↔ ((b : Bool) × (closed_truth sizes f ≡ Some b))
told_exactly sizes f = (truth_told sizes f, λ p. told_truth sizes f p.0 p.1)
