-- Sums over lists that are read by `get_elem?`.
use Rattle.std.proofs.Common.{◌≡◌, ◌≢◌, ℕ, zero, suc, ◌+◌, ◌≤◌, List, [], ◌∷◌, set, sum_by, sym, refl, ap, arith}
use Rattle.std.proofs.lemmas.List.Sums.{sum_by-cons}
use mathlib.Core.Option.{some, some-injective, some-ne-none}
use lib.ListN.{get_elem?}

module _ {A : Type 0} (f : A → ℕ) where
  -- one item is put in another's place
  pub sum_set : (xs : List A) (i : ℕ) (v w : A) → get_elem? xs i ≡ some v → sum_by f (set xs i w) + f v ≡ sum_by f xs + f w
  sum_set [] i v w e = absurd (some-ne-none v (sym e))
  sum_set (x ∷ xs) zero v w e = let h : f x ≡ f v = ap f (some-injective x v e) in let a = sum_by-cons f x xs in let b = sum_by-cons f w xs in omega arith
  sum_set (x ∷ xs) (suc i) v w e = let h = sum_set xs i v w e in let a = sum_by-cons f x xs in let b = sum_by-cons f x (set xs i w) in omega arith

  sum_at : (xs : List A) (i : ℕ) (v : A) → get_elem? xs i ≡ some v → f v ≤ sum_by f xs
  sum_at [] i v e = absurd (some-ne-none v (sym e))
  sum_at (x ∷ xs) zero v e = let h : f x ≡ f v = ap f (some-injective x v e) in let a = sum_by-cons f x xs in omega arith
  sum_at (x ∷ xs) (suc i) v e = let h = sum_at xs i v e in let a = sum_by-cons f x xs in omega arith

  -- two items at different places
  pub sum_two : (xs : List A) (i j : ℕ) (v w : A) → i ≢ j → get_elem? xs i ≡ some v → get_elem? xs j ≡ some w → f v + f w ≤ sum_by f xs
  sum_two [] i j v w n e d = absurd (some-ne-none v (sym e))
  sum_two (x ∷ xs) zero zero v w n e d = absurd (n refl)
  sum_two (x ∷ xs) zero (suc j) v w n e d = let h : f x ≡ f v = ap f (some-injective x v e) in let a = sum_by-cons f x xs in let t = sum_at xs j w d in omega arith
  sum_two (x ∷ xs) (suc i) zero v w n e d = let h : f x ≡ f w = ap f (some-injective x w d) in let a = sum_by-cons f x xs in let t = sum_at xs i v e in omega arith
  sum_two (x ∷ xs) (suc i) (suc j) v w n e d = let a = sum_by-cons f x xs in let t = sum_two xs i j v w (λ h. n (ap suc h)) e d in omega arith
