-- Laws of products of whole numbers, each by induction on the first factor.
use Rattle.std.proofs.Common.{◌≡◌, ℕ, zero, suc, ℤ, pos, negsuc, ◌+ℤ◌, ◌*ℤ◌, arith, refl, sym, ap}
use Rattle.std.proofs.lemmas.Int.{ints}
use Rattle.std.proofs.Math.IntN.{suc_ℤ-*ℤ, pred_ℤ-*ℤ, zero-*ℤ, *ℤ_comm}

suc_mul : (n : ℕ) (k : ℤ) → pos (suc n) *ℤ k ≡ pos n *ℤ k +ℤ k
suc_mul n k = suc_ℤ-*ℤ (pos n) k

minus_one_mul : (k : ℤ) → negsuc 0 *ℤ k +ℤ k ≡ pos 0
minus_one_mul k = omega (arith, ints, pred_ℤ-*ℤ (pos 0) k, zero-*ℤ k)

negsuc_mul : (n : ℕ) (k : ℤ) → negsuc (suc n) *ℤ k +ℤ k ≡ negsuc n *ℤ k
negsuc_mul n k = omega (arith, ints, pred_ℤ-*ℤ (negsuc n) k)

pub mul-add : (k a b : ℤ) → k *ℤ (a +ℤ b) ≡ k *ℤ a +ℤ k *ℤ b
mul-add (pos zero) a b = omega (arith, ints, zero-*ℤ (a +ℤ b), zero-*ℤ a, zero-*ℤ b)
mul-add (pos (suc n)) a b = omega (arith, ints, suc_mul n (a +ℤ b), suc_mul n a, suc_mul n b, mul-add (pos n) a b)
mul-add (negsuc zero) a b = omega (arith, ints, minus_one_mul (a +ℤ b), minus_one_mul a, minus_one_mul b)
mul-add (negsuc (suc n)) a b = omega (arith, ints, negsuc_mul n (a +ℤ b), negsuc_mul n a, negsuc_mul n b, mul-add (negsuc n) a b)

pub add-mul : (a b k : ℤ) → (a +ℤ b) *ℤ k ≡ a *ℤ k +ℤ b *ℤ k
add-mul a b k = omega (arith, ints, mul-add k a b, *ℤ_comm (a +ℤ b) k, *ℤ_comm a k, *ℤ_comm b k)

pub mul_assoc : (a b c : ℤ) → (a *ℤ b) *ℤ c ≡ a *ℤ (b *ℤ c)
mul_assoc (pos zero) b c = rw (zero-*ℤ b, zero-*ℤ c, zero-*ℤ (b *ℤ c)) refl
mul_assoc (pos (suc n)) b c =
    rw (suc_mul n b, add-mul (pos n *ℤ b) b c, mul_assoc (pos n) b c) (sym (suc_mul n (b *ℤ c)))
mul_assoc (negsuc zero) b c =
    let e = ap (λ z. z *ℤ c) (minus_one_mul b) in
    omega (arith, ints, e, zero-*ℤ c, add-mul (negsuc 0 *ℤ b) b c, minus_one_mul (b *ℤ c))
mul_assoc (negsuc (suc n)) b c =
    let e = ap (λ z. z *ℤ c) (negsuc_mul n b) in
    omega (arith, ints, e, add-mul (negsuc (suc n) *ℤ b) b c, negsuc_mul n (b *ℤ c), mul_assoc (negsuc n) b c)
