-- The elements of short lists.
use Rattle.std.proofs.Common.{◌≡◌, ℕ, zero, suc, ◌<◌, [], ◌∷◌, refl, subst, Some, arith}
use Rattle.std.specs.Prelude.{Contains, slice_index_or}
use Rattle.cb_spec.specs.States.{IsAt}
use Rattle.cb_spec.specs.Typed.{NumbersDiffer}

pub nothing_at : {A : Type 0} (k : ℕ) (b : A) → IsAt [] k b → ⊥
nothing_at zero b e = cc
nothing_at (suc k) b e = cc

pub some_is : {A : Type 0} (a b : A) → Some a ≡ Some b → a ≡ b
some_is a b e = cc

pub one : {A : Type 0} (a : A) (k : ℕ) (b : A) (P : ℕ → A → Type 0) → P 0 a → IsAt (a ∷ []) k b → P k b
one a zero b P p e = subst (P 0) (some_is a b e) p
one a (suc k) b P p e = absurd (nothing_at k b e)

pub two : {A : Type 0} (a c : A) (k : ℕ) (b : A) (P : ℕ → A → Type 0) → P 0 a → P 1 c → IsAt (a ∷ c ∷ []) k b → P k b
two a c zero b P p q e = subst (P 0) (some_is a b e) p
two a c (suc k) b P p q e = one c k b (λ k z. P (suc k) z) q e

pub none_there : {A : Type 0} (b : A) → Contains [] b → ⊥
none_there b c = below c.0 c.1
  where
    below : (k : ℕ) → k < 0 → ⊥
    below k l = omega (arith, l)

pub only_one : {A : Type 0} (a b : A) → Contains (a ∷ []) b → a ≡ b
only_one a b c = here c.0 c.1 c.2
  where
    here : (k : ℕ) → k < 1 → slice_index_or (a ∷ []) k b ≡ b → a ≡ b
    here zero l e = e
    here (suc k) l e = absurd (omega (arith, l))

-- ---- the numbers of two things

pub both_listed : (k : ℕ) → k < 2 → (i : ℕ) × IsAt (0 ∷ 1 ∷ []) i k
both_listed zero l = (0, refl)
both_listed (suc zero) l = (1, refl)
both_listed (suc (suc k)) l = absurd (omega (arith, l))

pub both_differ : NumbersDiffer (0 ∷ 1 ∷ [])
both_differ i j k e f = two 0 1 i k (λ i k. IsAt (0 ∷ 1 ∷ []) j k → i ≡ j)
    (λ f. two 0 1 j 0 (λ j k. k ≡ 0 → 0 ≡ j) (λ _. refl) (λ e. absurd (omega (arith, e))) f refl)
    (λ f. two 0 1 j 1 (λ j k. k ≡ 1 → 1 ≡ j) (λ e. absurd (omega (arith, e))) (λ _. refl) f refl) e f

pub both_below : (i k : ℕ) → IsAt (0 ∷ 1 ∷ []) i k → k < 2
both_below i k e = two 0 1 i k (λ i k. k < 2) (omega arith) (omega arith) e
