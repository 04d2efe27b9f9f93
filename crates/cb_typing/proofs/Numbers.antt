-- Intervals that keep within bounds, whose ends are not cut then.
use Rattle.std.proofs.Common.{◌≡◌, ℕ, suc, ◌^◌, ◌<◌, ◌≤◌, ◌/◌, ℤ, pos, negsuc, ◌+ℤ◌, ◌-ℤ◌, neg_ℤ, ◌≤ℤ◌, ◌<ℤ◌, int_le, int_lt, nat_le, Bool, true, false, refl, arith}
use Rattle.std.specs.Int.{int_div_euclid}
use Rattle.std.proofs.Math.Nat.{div-mul-le_self}
use Rattle.std.proofs.lemmas.Nat.{le-div}
use Rattle.std.proofs.lemmas.Bool.{leb-false, or_parts}
use Rattle.std.proofs.lemmas.Int.{ints, clamps}
use Rattle.cb_forms.specs.Spans.{cut, leaves, is_above, is_below, added, taken, negated, least4, greatest4}
use Rattle.cb_forms.proofs.Cuts.{cut_exact}

pub le_true : (x y : ℤ) → int_le x y ≡ true → x ≤ℤ y
le_true x y e = omega (arith, ints, e)

pub lt_true : (x y : ℤ) → int_lt x y ≡ true → x <ℤ y
lt_true x y e = omega (arith, ints, e)

pub lt_false : (x y : ℤ) → int_lt x y ≡ false → y ≤ℤ x
lt_false x y e = omega (arith, ints, e)

pub le_false : (x y : ℤ) → int_le x y ≡ false → y <ℤ x
le_false x y e = omega (arith, ints, e)

pub true_le : (x y : ℤ) → x ≤ℤ y → int_le x y ≡ true
true_le x y l = by (int_le x y) refl
  where
    by : (b : Bool) → int_le x y ≡ b → b ≡ true
    by true e = refl
    by false e = absurd (omega (arith, ints, l, e))

pub false_lt : (x y : ℤ) → y ≤ℤ x → int_lt x y ≡ false
false_lt x y l = by (int_lt x y) refl
  where
    by : (b : Bool) → int_lt x y ≡ b → b ≡ false
    by true e = absurd (omega (arith, ints, l, e))
    by false e = refl

-- the interval keeps within 2 ^ 62 of 0
abbrev pub Keeps : ℤ → ℤ → Type 0
Keeps lo hi = (neg_ℤ (pos (2 ^ 62)) ≤ℤ lo) × (hi ≤ℤ pos (2 ^ 62))

pub keeps : (lo hi : ℤ) → leaves (record { lo = lo; hi = hi }) ≡ false → Keeps lo hi
keeps lo hi e =
    let p = or_parts (is_below lo) (is_above hi) e in
    (lt_false _ _ p.0, lt_false _ _ p.1)

-- ---- ends that are not cut

near : (z : ℤ) → neg_ℤ (pos (2 ^ 64)) ≤ℤ z → z ≤ℤ pos (2 ^ 64) → cut z ≡ z
near (pos n) l h = by (nat_le n (2 ^ 126)) refl
  where
    by : (b : Bool) → nat_le n (2 ^ 126) ≡ b → cut (pos n) ≡ pos n
    by true e = rw e refl
    by false e = absurd (omega (arith, ints, h, leb-false n (2 ^ 126) e))
near (negsuc n) l h = by (nat_le (suc n) (2 ^ 126)) refl
  where
    by : (b : Bool) → nat_le (suc n) (2 ^ 126) ≡ b → cut (negsuc n) ≡ negsuc n
    by true e = rw e refl
    by false e = absurd (omega (arith, ints, l, leb-false (suc n) (2 ^ 126) e))

within_is_exact : (z : ℤ) → neg_ℤ (pos (2 ^ 62)) ≤ℤ cut z → cut z ≤ℤ pos (2 ^ 62) → cut z ≡ z
within_is_exact z l h = cut_exact z (false_lt _ _ h) (false_lt _ _ l)

module _ (a b c d : ℤ) (s : Keeps a b) (t : Keeps c d) (p : a ≤ℤ b) (q : c ≤ℤ d) where
  pub added_exact : added (record { lo = a; hi = b }) (record { lo = c; hi = d }) ≡ record { lo = a +ℤ c; hi = b +ℤ d }
  added_exact =
      let low = near (a +ℤ c) (omega (arith, ints, s, t, p, q)) (omega (arith, ints, s, t, p, q)) in
      let high = near (b +ℤ d) (omega (arith, ints, s, t, p, q)) (omega (arith, ints, s, t, p, q)) in
      rw (low, high) refl

  pub taken_exact : taken (record { lo = a; hi = b }) (record { lo = c; hi = d }) ≡ record { lo = a -ℤ d; hi = b -ℤ c }
  taken_exact =
      let low = near (a -ℤ d) (omega (arith, ints, s, t, p, q)) (omega (arith, ints, s, t, p, q)) in
      let high = near (b -ℤ c) (omega (arith, ints, s, t, p, q)) (omega (arith, ints, s, t, p, q)) in
      rw (low, high) refl

pub negated_exact : (a b : ℤ) → Keeps a b → a ≤ℤ b → negated (record { lo = a; hi = b }) ≡ record { lo = neg_ℤ b; hi = neg_ℤ a }
negated_exact a b s p =
    let low = near (pos 0 -ℤ b) (omega (arith, ints, s, p)) (omega (arith, ints, s, p)) in
    let high = near (pos 0 -ℤ a) (omega (arith, ints, s, p)) (omega (arith, ints, s, p)) in
    let l : pos 0 -ℤ b ≡ neg_ℤ b = omega (arith, ints) in
    let h : pos 0 -ℤ a ≡ neg_ℤ a = omega (arith, ints) in
    rw (low, high, l, h) refl

pub least_exact : (a b c d : ℤ) → Keeps (least4 (cut a) (cut b) (cut c) (cut d)) (greatest4 (cut a) (cut b) (cut c) (cut d)) →
    (cut a ≡ a) × (cut b ≡ b) × (cut c ≡ c) × (cut d ≡ d)
least_exact a b c d k = (
  within_is_exact a (omega (arith, ints, clamps, k)) (omega (arith, ints, clamps, k)),
  within_is_exact b (omega (arith, ints, clamps, k)) (omega (arith, ints, clamps, k)),
  within_is_exact c (omega (arith, ints, clamps, k)) (omega (arith, ints, clamps, k)),
  within_is_exact d (omega (arith, ints, clamps, k)) (omega (arith, ints, clamps, k)),
)

-- ---- intervals that have a number

pub sums : (a b c d : ℤ) → a ≤ℤ b → c ≤ℤ d → (a +ℤ c) ≤ℤ (b +ℤ d)
sums a b c d p q = omega (arith, ints, p, q)

pub differences : (a b c d : ℤ) → a ≤ℤ b → c ≤ℤ d → (a -ℤ d) ≤ℤ (b -ℤ c)
differences a b c d p q = omega (arith, ints, p, q)

pub negatives : (a b : ℤ) → a ≤ℤ b → neg_ℤ b ≤ℤ neg_ℤ a
negatives a b p = omega (arith, ints, p)

pub least_greatest : (a b c d : ℤ) → least4 a b c d ≤ℤ greatest4 a b c d
least_greatest a b c d = omega (arith, ints, clamps)

div_up : (m n k : ℕ) → 0 < k → m ≤ n → m / k ≤ n / k
div_up m n k p l = le-div (m / k) n k p (omega (arith, l, div-mul-le_self m k))

pub quotients : (a b d : ℤ) → pos 0 ≤ℤ a → a ≤ℤ b → pos 0 <ℤ d → int_div_euclid a d ≤ℤ int_div_euclid b d
quotients (pos a) (pos b) (pos d) z l p = let q : 0 < d = omega (arith, ints, p) in let r : a ≤ b = omega (arith, ints, l) in omega (arith, ints, div_up a b d q r)
quotients (pos a) (pos b) (negsuc d) z l p = absurd (omega (arith, ints, p))
quotients (pos a) (negsuc b) d z l p = absurd (omega (arith, ints, l))
quotients (negsuc a) b d z l p = absurd (omega (arith, ints, z))

pub rest_proper : (d : ℤ) → pos 0 <ℤ d → pos 0 ≤ℤ (d -ℤ pos 1)
rest_proper d p = omega (arith, ints, p)
