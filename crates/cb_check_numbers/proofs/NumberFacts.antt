-- Tests of numbers as facts, and laws of quotients.
use Rattle.std.proofs.Common.{◌≡◌, ℕ, ◌/◌, ◌<◌, ℤ, pos, negsuc, ◌+ℤ◌, ◌*ℤ◌, ◌≤ℤ◌, ◌<ℤ◌, int_le, int_lt, Bool, true, false, refl, arith}
use Rattle.std.specs.Int.{int_div_euclid, int_rem_euclid}
use Rattle.std.proofs.Math.Nat.{div-add-mod', mod-lt, mul-suc}
use Rattle.std.proofs.lemmas.Int.{ints}

pub le_true : (x y : ℤ) → int_le x y ≡ true → x ≤ℤ y
le_true x y e = omega (arith, ints, e)

pub true_le : (x y : ℤ) → x ≤ℤ y → int_le x y ≡ true
true_le x y l = by (int_le x y) refl
  where
    by : (b : Bool) → int_le x y ≡ b → b ≡ true
    by true e = refl
    by false e = absurd (omega (arith, ints, l, e))

pub lt_true : (x y : ℤ) → int_lt x y ≡ true → x <ℤ y
lt_true x y e = omega (arith, ints, e)

pub true_lt : (x y : ℤ) → x <ℤ y → int_lt x y ≡ true
true_lt x y l = by (int_lt x y) refl
  where
    by : (b : Bool) → int_lt x y ≡ b → b ≡ true
    by true e = refl
    by false e = absurd (omega (arith, ints, l, e))

pub product_at_least : (x y : ℤ) → pos 0 ≤ℤ x → pos 0 ≤ℤ y → pos 0 ≤ℤ (x *ℤ y)
product_at_least (pos a) (pos b) p q = omega (arith, ints)
product_at_least (pos a) (negsuc b) p q = absurd (omega (arith, ints, q))
product_at_least (negsuc a) y p q = absurd (omega (arith, ints, p))

-- ---- quotients by a positive number

pub quotient_law : (x : ℤ) (n : ℕ) → 0 < n → x ≡ ((pos n *ℤ int_div_euclid x (pos n)) +ℤ int_rem_euclid x (pos n))
quotient_law (pos a) n p = omega (arith, ints, div-add-mod' a n)
quotient_law (negsuc a) n p = omega (arith, ints, div-add-mod' a n, mod-lt a p, mul-suc n (a / n))

pub rest_low : (x : ℤ) (n : ℕ) → pos 0 ≤ℤ int_rem_euclid x (pos n)
rest_low (pos a) n = omega (arith, ints)
rest_low (negsuc a) n = omega (arith, ints)

pub rest_high : (x : ℤ) (n : ℕ) → 0 < n → int_rem_euclid x (pos n) <ℤ pos n
rest_high (pos a) n p = omega (arith, ints, mod-lt a p)
rest_high (negsuc a) n p = omega (arith, ints, p)
