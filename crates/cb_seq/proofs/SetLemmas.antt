-- The signs of sets keep their lists ascending.
use Rattle.std.proofs.Common.{◌≡◌, ℕ, zero, suc, ◌+◌, ℤ, pos, ◌+ℤ◌, ◌<ℤ◌, int_lt, int_le, Bool, true, false, cond, List, [], ◌∷◌, filter, refl, sym, ◌∙◌, arith, if◌then◌else◌, true≢false}
use Rattle.std.specs.Ordering.{int_eq}
use Rattle.std.specs.Int.{int_gap}
use Rattle.std.proofs.lemmas.Bool.Decides.{Decides-int_eq}
use Rattle.std.proofs.lemmas.Int.{by_lt_z, ints}
use Rattle.cb_term.specs.Sets.{insert, union, upwards, range, IsAscending}

pub eq_tells : (x y : ℤ) → int_eq x y ≡ true → x ≡ y
eq_tells x y = (Decides-int_eq x y).0

pub eq_self : (x : ℤ) → int_eq x x ≡ true
eq_self x = (Decides-int_eq x x).1 refl

pub other_way : (x y : ℤ) → int_lt x y ≡ false → int_eq x y ≡ false → y <ℤ x
other_way x y e f = by_lt_z y x (λ l. l) (λ g.
    let same : x ≡ y = omega (arith, ints, e, g) in
    absurd (true≢false (sym ((Decides-int_eq x y).1 same) ∙ f)))

-- ---- ascending lists

abbrev pub Above : ℤ → List ℤ → Type 0
Above x [] = Unit {0}
Above x (y ∷ ys) = x <ℤ y

pub asc_cons : (x : ℤ) (ys : List ℤ) → Above x ys → IsAscending ys → IsAscending (x ∷ ys)
asc_cons x [] a h = tt
asc_cons x (y ∷ ys) a h = (a, h)

pub asc_head : (x : ℤ) (ys : List ℤ) → IsAscending (x ∷ ys) → Above x ys
asc_head x [] h = tt
asc_head x (y ∷ ys) h = h.0

pub asc_tail : (x : ℤ) (ys : List ℤ) → IsAscending (x ∷ ys) → IsAscending ys
asc_tail x [] h = tt
asc_tail x (y ∷ ys) h = h.1

above_trans : (z y : ℤ) (ys : List ℤ) → z <ℤ y → Above y ys → Above z ys
above_trans z y [] l a = tt
above_trans z y (x ∷ xs) l a = omega (arith, ints, l, a)

above_insert : (z x : ℤ) (ys : List ℤ) → z <ℤ x → Above z ys → Above z (insert x ys)
above_insert z x [] l a = l
above_insert z x (y ∷ ys) l a = by (int_lt x y) (int_eq x y)
  where
    by : (b c : Bool) → Above z (if b then x ∷ (y ∷ ys) else (if c then y ∷ ys else y ∷ insert x ys))
    by true c = l
    by false true = a
    by false false = a

pub insert_asc : (x : ℤ) (ys : List ℤ) → IsAscending ys → IsAscending (insert x ys)
insert_asc x [] h = tt
insert_asc x (y ∷ ys) h = by (int_lt x y) (int_eq x y) refl refl (insert_asc x ys (asc_tail y ys h))
  where
    by : (b c : Bool) → int_lt x y ≡ b → int_eq x y ≡ c → IsAscending (insert x ys) → IsAscending (if b then x ∷ (y ∷ ys) else (if c then y ∷ ys else y ∷ insert x ys))
    by true c e f r = (omega (arith, ints, e), h)
    by false true e f r = h
    by false false e f r = asc_cons y (insert x ys) (above_insert y x ys (other_way x y e f) (asc_head y ys h)) r

pub union_asc : (xs ys : List ℤ) → IsAscending ys → IsAscending (union xs ys)
union_asc [] ys h = h
union_asc (x ∷ xs) ys h = insert_asc x (union xs ys) (union_asc xs ys h)

above_filter : (z : ℤ) (t : ℤ → Bool) (ys : List ℤ) → Above z ys → IsAscending ys → Above z (filter t ys)
above_filter z t [] a h = tt
above_filter z t (y ∷ ys) a h = by (t y) (above_filter z t ys (above_trans z y ys a (asc_head y ys h)) (asc_tail y ys h))
  where
    by : (b : Bool) → Above z (filter t ys) → Above z (cond b (y ∷ filter t ys) (filter t ys))
    by true r = a
    by false r = r

pub filter_asc : (t : ℤ → Bool) (ys : List ℤ) → IsAscending ys → IsAscending (filter t ys)
filter_asc t [] h = tt
filter_asc t (y ∷ ys) h = by (t y) (filter_asc t ys (asc_tail y ys h))
  where
    by : (b : Bool) → IsAscending (filter t ys) → IsAscending (cond b (y ∷ filter t ys) (filter t ys))
    by true r = asc_cons y (filter t ys) (above_filter y t ys (asc_head y ys h) (asc_tail y ys h)) r
    by false r = r

above_up : (x : ℤ) (n : ℕ) → Above x (upwards (x +ℤ pos 1) n)
above_up x zero = tt
above_up x (suc n) = omega (arith, ints)

pub upwards_asc : (x : ℤ) (n : ℕ) → IsAscending (upwards x n)
upwards_asc x zero = tt
upwards_asc x (suc n) = asc_cons x (upwards (x +ℤ pos 1) n) (above_up x n) (upwards_asc (x +ℤ pos 1) n)

pub range_asc : (x y : ℤ) → IsAscending (range x y)
range_asc x y = by (int_le x y)
  where
    by : (b : Bool) → IsAscending (if b then upwards x (int_gap x y + 1) else [])
    by true = upwards_asc x (int_gap x y + 1)
    by false = tt
