-- Membership in unions, differences and ranges, and how many items they have.
use Rattle.std.proofs.Common.{◌≡◌, ℕ, zero, suc, ◌+◌, ◌≤◌, ℤ, pos, negsuc, ◌+ℤ◌, ◌<ℤ◌, ◌≤ℤ◌, int_lt, int_le, Bool, true, false, not, cond, ◌&&◌, ◌||◌, List, [], ◌∷◌, length, filter, refl, sym, ap, ◌∙◌, subst, arith, if◌then◌else◌, true≢false}
use Rattle.std.specs.Ordering.{int_eq}
use Rattle.std.specs.Int.{int_gap}
use Rattle.std.specs.List.{list_all}
use Rattle.std.proofs.lemmas.Bool.{and_parts}
use Rattle.std.proofs.lemmas.Bool.Decides.{Decides-int_eq}
use Rattle.std.proofs.lemmas.Int.{ints}
use Rattle.cb_term.specs.Sets.{has, insert, union, upwards, range, IsAscending}
use Rattle.cb_seq.proofs.SetLemmas.{eq_tells, eq_self, other_way, asc_tail}

-- ---- members

or_swap : (a b c : Bool) → (a || (b || c)) ≡ (b || (a || c))
or_swap true true c = refl
or_swap true false c = refl
or_swap false true c = refl
or_swap false false c = refl

or_assoc : (a b c : Bool) → (a || (b || c)) ≡ ((a || b) || c)
or_assoc true b c = refl
or_assoc false b c = refl

or_twice : (b c : Bool) → (b || (b || c)) ≡ (b || c)
or_twice true c = refl
or_twice false c = refl

pub has_insert : (x z : ℤ) (ys : List ℤ) → has (insert x ys) z ≡ (int_eq x z || has ys z)
has_insert x z [] = refl
has_insert x z (y ∷ ys) = by (int_lt x y) (int_eq x y) refl (has_insert x z ys)
  where
    by : (b c : Bool) → int_eq x y ≡ c → has (insert x ys) z ≡ (int_eq x z || has ys z) →
        has (if b then x ∷ (y ∷ ys) else (if c then y ∷ ys else y ∷ insert x ys)) z ≡ (int_eq x z || (int_eq y z || has ys z))
    by true c f r = refl
    by false true f r = subst (λ w. (int_eq y z || has ys z) ≡ (int_eq w z || (int_eq y z || has ys z))) (sym (eq_tells x y f)) (sym (or_twice (int_eq y z) (has ys z)))
    by false false f r = ap (λ d. int_eq y z || d) r ∙ or_swap (int_eq y z) (int_eq x z) (has ys z)

pub has_union : (xs ys : List ℤ) (z : ℤ) → has (union xs ys) z ≡ (has xs z || has ys z)
has_union [] ys z = refl
has_union (x ∷ xs) ys z = has_insert x z (union xs ys) ∙ ap (λ d. int_eq x z || d) (has_union xs ys z) ∙ or_assoc (int_eq x z) (has xs z) (has ys z)

and_no : (b : Bool) → (b && false) ≡ false
and_no true = refl
and_no false = refl

pub has_filter : (t : ℤ → Bool) (xs : List ℤ) (z : ℤ) → has (filter t xs) z ≡ (has xs z && t z)
has_filter t [] z = refl
has_filter t (x ∷ xs) z = by (t x) (int_eq x z) refl refl (has_filter t xs z)
  where
    by : (b c : Bool) → t x ≡ b → int_eq x z ≡ c → has (filter t xs) z ≡ (has xs z && t z) →
        has (cond b (x ∷ filter t xs) (filter t xs)) z ≡ ((c || has xs z) && t z)
    by true true e f r = rw f (sym (ap t (sym (eq_tells x z f)) ∙ e))
    by true false e f r = rw f r
    by false true e f r = let g : t z ≡ false = ap t (sym (eq_tells x z f)) ∙ e in r ∙ rw g (and_no (has xs z))
    by false false e f r = r

-- the first of an ascending list is the least
pub asc_least : (x z : ℤ) (xs : List ℤ) → IsAscending (x ∷ xs) → has xs z ≡ true → x <ℤ z
asc_least x z [] h e = cc
asc_least x z (y ∷ ys) h e = by (int_eq y z) refl e (asc_least y z ys h.1)
  where
    by : (c : Bool) → int_eq y z ≡ c → (c || has ys z) ≡ true → (has ys z ≡ true → y <ℤ z) → x <ℤ z
    by true f e r = subst (λ w. x <ℤ w) (eq_tells y z f) h.0
    by false f e r = omega (arith, ints, h.0, r e)

abbrev pub Within : List ℤ → List ℤ → Type 0
Within xs ys = (z : ℤ) → has xs z ≡ true → has ys z ≡ true

pub all_within : (xs ys : List ℤ) → list_all (has ys) xs ≡ true → Within xs ys
all_within [] ys e z h = cc
all_within (x ∷ xs) ys e z h = let p = and_parts (has ys x) (list_all (has ys) xs) e in by (int_eq x z) refl h (all_within xs ys p.1 z) p.0
  where
    by : (c : Bool) → int_eq x z ≡ c → (c || has xs z) ≡ true → (has xs z ≡ true → has ys z ≡ true) → has ys x ≡ true → has ys z ≡ true
    by true f h r p = subst (λ w. has ys w ≡ true) (eq_tells x z f) p
    by false f h r p = r h

or_true : (a b : Bool) → b ≡ true → (a || b) ≡ true
or_true true b e = refl
or_true false b e = e

pub within_all : (xs ys : List ℤ) → Within xs ys → list_all (has ys) xs ≡ true
within_all [] ys w = refl
within_all (x ∷ xs) ys w =
    rw (w x (rw (eq_self x) refl), within_all xs ys (λ z h. w z (or_true (int_eq x z) (has xs z) h))) refl

-- what the rest of one list has, the rest of the other has, where they begin alike
rest_within : (x : ℤ) (xs ys : List ℤ) → IsAscending (x ∷ xs) → Within (x ∷ xs) (x ∷ ys) → Within xs ys
rest_within x xs ys a w z h = by (int_eq x z) refl (w z (or_true (int_eq x z) (has xs z) h))
  where
    by : (c : Bool) → int_eq x z ≡ c → (c || has ys z) ≡ true → has ys z ≡ true
    by true f e = absurd (omega (arith, ints, asc_least x z xs a h, eq_tells x z f))
    by false f e = e

pub same_lists : (xs ys : List ℤ) → IsAscending xs → IsAscending ys → Within xs ys → Within ys xs → xs ≡ ys
same_lists [] [] a b v w = refl
same_lists [] (y ∷ ys) a b v w = let e : has [] y ≡ true = w y (rw (eq_self y) refl) in cc
same_lists (x ∷ xs) [] a b v w = let e : has [] x ≡ true = v x (rw (eq_self x) refl) in cc
same_lists (x ∷ xs) (y ∷ ys) a b v w = by (int_eq y x) refl (v x (rw (eq_self x) refl)) (w y (rw (eq_self y) refl)) (same_lists xs ys (asc_tail x xs a) (asc_tail y ys b))
  where
    again : x ≡ y → (Within xs ys → Within ys xs → xs ≡ ys) → (x ∷ xs) ≡ (y ∷ ys)
    again e r =
        let v' : Within (y ∷ xs) (y ∷ ys) = subst (λ u. Within (u ∷ xs) (y ∷ ys)) e v in
        let w' : Within (y ∷ ys) (y ∷ xs) = subst (λ u. Within (y ∷ ys) (u ∷ xs)) e w in
        let a' : IsAscending (y ∷ xs) = subst (λ u. IsAscending (u ∷ xs)) e a in
        ap (λ u. u ∷ xs) e ∙ ap (λ us. y ∷ us) (r (rest_within y xs ys a' v') (rest_within y ys xs b w'))

    other : int_eq y x ≡ false → has ys x ≡ true → (d : Bool) → int_eq x y ≡ d → (d || has xs y) ≡ true → (x ∷ xs) ≡ (y ∷ ys)
    other f p true g q = absurd (true≢false (sym ((Decides-int_eq y x).1 (sym (eq_tells x y g))) ∙ f))
    other f p false g q = absurd (omega (arith, ints, asc_least y x ys b p, asc_least x y xs a q))

    by : (c : Bool) → int_eq y x ≡ c → (c || has ys x) ≡ true → (int_eq x y || has xs y) ≡ true → (Within xs ys → Within ys xs → xs ≡ ys) → (x ∷ xs) ≡ (y ∷ ys)
    by true f p q r = again (sym (eq_tells y x f)) r
    by false f p q r = other f p (int_eq x y) refl q

-- ---- how many

pub length_insert : (x : ℤ) (ys : List ℤ) → has ys x ≡ false → length (insert x ys) ≡ length ys + 1
length_insert x [] h = refl
length_insert x (y ∷ ys) h = by (int_lt x y) (int_eq x y) refl (int_eq y x) refl h (length_insert x ys)
  where
    by : (b c : Bool) → int_eq x y ≡ c → (d : Bool) → int_eq y x ≡ d → (d || has ys x) ≡ false → (has ys x ≡ false → length (insert x ys) ≡ length ys + 1) →
        length (if b then x ∷ (y ∷ ys) else (if c then y ∷ ys else y ∷ insert x ys)) ≡ length (y ∷ ys) + 1
    by b c f true g h r = cc
    by true c f false g h r = omega arith
    by false true f false g h r = absurd (true≢false (sym ((Decides-int_eq y x).1 (sym (eq_tells x y f))) ∙ g))
    by false false f false g h r = omega (arith, r h)

or_no : (a b : Bool) → a ≡ false → b ≡ false → (a || b) ≡ false
or_no true b e f = cc
or_no false b e f = f

not_true : (b : Bool) → (b ≡ true → ⊥) → b ≡ false
not_true true n = absurd (n refl)
not_true false n = refl

-- with one item more
pub length_added : (xs : List ℤ) (z : ℤ) → IsAscending xs → has xs z ≡ false → length (union xs (z ∷ [])) ≡ length xs + 1
length_added [] z a h = refl
length_added (x ∷ xs) z a h = by (int_eq x z) refl h (length_added xs z (asc_tail x xs a))
  where
    by : (c : Bool) → int_eq x z ≡ c → (c || has xs z) ≡ false → (has xs z ≡ false → length (union xs (z ∷ [])) ≡ length xs + 1) →
        length (insert x (union xs (z ∷ []))) ≡ length (x ∷ xs) + 1
    by true f h r = cc
    by false f h r =
        let first : has xs x ≡ false = not_true (has xs x) (λ e. absurd (omega (arith, ints, asc_least x x xs a e))) in
        let second : int_eq z x ≡ false = not_true (int_eq z x) (λ e. true≢false (sym ((Decides-int_eq x z).1 (sym (eq_tells z x e))) ∙ f)) in
        let none : has (union xs (z ∷ [])) x ≡ false = has_union xs (z ∷ []) x ∙ or_no (has xs x) (int_eq z x || false) first (or_no (int_eq z x) false second refl) in
        omega (arith, length_insert x (union xs (z ∷ [])) none, r h)

-- with one item less
length_without : (xs : List ℤ) (z : ℤ) → has xs z ≡ false → length (filter (λ x. not (int_eq z x || false)) xs) ≡ length xs
length_without [] z h = refl
length_without (x ∷ xs) z h = by (int_eq x z) refl (int_eq z x) refl h (length_without xs z)
  where
    by : (c : Bool) → int_eq x z ≡ c → (d : Bool) → int_eq z x ≡ d → (c || has xs z) ≡ false → (has xs z ≡ false → length (filter (λ y. not (int_eq z y || false)) xs) ≡ length xs) →
        length (cond (not (d || false)) (x ∷ filter (λ y. not (int_eq z y || false)) xs) (filter (λ y. not (int_eq z y || false)) xs)) ≡ length (x ∷ xs)
    by true f d g h r = cc
    by false f true g h r = absurd (true≢false (sym ((Decides-int_eq x z).1 (sym (eq_tells z x g))) ∙ f))
    by false f false g h r = ap suc (r h)

pub length_removed : (xs : List ℤ) (z : ℤ) → IsAscending xs → has xs z ≡ true → length (filter (λ x. not (has (z ∷ []) x)) xs) + 1 ≡ length xs
length_removed [] z a h = cc
length_removed (x ∷ xs) z a h = by (int_eq x z) refl (int_eq z x) refl h (length_removed xs z (asc_tail x xs a))
  where
    by : (c : Bool) → int_eq x z ≡ c → (d : Bool) → int_eq z x ≡ d → (c || has xs z) ≡ true →
        (has xs z ≡ true → length (filter (λ y. not (int_eq z y || false)) xs) + 1 ≡ length xs) →
        length (cond (not (d || false)) (x ∷ filter (λ y. not (int_eq z y || false)) xs) (filter (λ y. not (int_eq z y || false)) xs)) + 1 ≡ length (x ∷ xs)
    by true f true g h r =
        let none : has xs z ≡ false = not_true (has xs z) (λ e. absurd (omega (arith, ints, asc_least x z xs a e, eq_tells x z f))) in
        omega (arith, length_without xs z none)
    by true f false g h r = absurd (true≢false (sym ((Decides-int_eq z x).1 (sym (eq_tells x z f))) ∙ g))
    by false f true g h r = absurd (true≢false (sym ((Decides-int_eq x z).1 (sym (eq_tells z x g))) ∙ f))
    by false f false g h r = omega (arith, r h)

-- a part has no more
pub length_within : (xs ys : List ℤ) → IsAscending xs → IsAscending ys → Within xs ys → length xs ≤ length ys
length_within [] ys a b w = omega arith
length_within (x ∷ xs) [] a b w = let e : has [] x ≡ true = w x (rw (eq_self x) refl) in cc
length_within (x ∷ xs) (y ∷ ys) a b w =
    by (int_eq y x) refl (w x (rw (eq_self x) refl)) (length_within xs ys (asc_tail x xs a) (asc_tail y ys b)) (length_within (x ∷ xs) ys a (asc_tail y ys b))
  where
    by : (c : Bool) → int_eq y x ≡ c → (c || has ys x) ≡ true → (Within xs ys → length xs ≤ length ys) → (Within (x ∷ xs) ys → suc (length xs) ≤ length ys) → suc (length xs) ≤ suc (length ys)
    by true f p r q =
        let w' : Within (x ∷ xs) (x ∷ ys) = subst (λ u. Within (x ∷ xs) (u ∷ ys)) (eq_tells y x f) w in
        omega (arith, r (rest_within x xs ys a w'))
    by false f p r q =
        let l : y <ℤ x = asc_least y x ys b p in
        omega (arith, q (λ z h. past z h (int_eq y z) refl (w z h) (int_eq x z) refl h))
      where
        past : (z : ℤ) → (int_eq x z || has xs z) ≡ true → (c : Bool) → int_eq y z ≡ c → (c || has ys z) ≡ true → (d : Bool) → int_eq x z ≡ d → (d || has xs z) ≡ true → has ys z ≡ true
        past z h true g k true m n = absurd (omega (arith, ints, asc_least y x ys b p, eq_tells y z g, eq_tells x z m))
        past z h true g k false m n = absurd (omega (arith, ints, asc_least y x ys b p, eq_tells y z g, asc_least x z xs a n))
        past z h false g k d m n = k

-- ---- ranges

up_tells : (x : ℤ) (n : ℕ) (z : ℤ) → has (upwards x n) z ≡ true → (x ≤ℤ z) × (z <ℤ (x +ℤ pos n))
up_tells x zero z h = cc
up_tells x (suc n) z h = by (int_eq x z) refl h (up_tells (x +ℤ pos 1) n z)
  where
    by : (c : Bool) → int_eq x z ≡ c → (c || has (upwards (x +ℤ pos 1) n) z) ≡ true → (has (upwards (x +ℤ pos 1) n) z ≡ true → ((x +ℤ pos 1) ≤ℤ z) × (z <ℤ ((x +ℤ pos 1) +ℤ pos n))) → (x ≤ℤ z) × (z <ℤ (x +ℤ pos (suc n)))
    by true f h r = (omega (arith, ints, eq_tells x z f), omega (arith, ints, eq_tells x z f))
    by false f h r = let p = r h in (omega (arith, ints, p.0), omega (arith, ints, p.1))

pub up_has : (x : ℤ) (n : ℕ) (z : ℤ) → x ≤ℤ z → z <ℤ (x +ℤ pos n) → has (upwards x n) z ≡ true
up_has x zero z l g = absurd (omega (arith, ints, l, g))
up_has x (suc n) z l g = by (int_eq x z) refl (int_lt x z) refl (up_has (x +ℤ pos 1) n z)
  where
    by : (c : Bool) → int_eq x z ≡ c → (d : Bool) → int_lt x z ≡ d → ((x +ℤ pos 1) ≤ℤ z → z <ℤ ((x +ℤ pos 1) +ℤ pos n) → has (upwards (x +ℤ pos 1) n) z ≡ true) → (c || has (upwards (x +ℤ pos 1) n) z) ≡ true
    by true f d e r = refl
    by false f true e r = r (omega (arith, ints, e)) (omega (arith, ints, g))
    by false f false e r = absurd (omega (arith, ints, l, other_way x z e f))

gap_end : (x y : ℤ) → x ≤ℤ y → (x +ℤ pos (int_gap x y + 1)) ≡ (y +ℤ pos 1)
gap_end (pos a) (pos b) l = omega (arith, ints, l)
gap_end (pos a) (negsuc b) l = absurd (omega (arith, ints, l))
gap_end (negsuc a) (pos b) l = omega (arith, ints)
gap_end (negsuc a) (negsuc b) l = omega (arith, ints, l)

pub le_true : (x y : ℤ) → int_le x y ≡ true → x ≤ℤ y
le_true x y e = omega (arith, ints, e)

pub true_le : (x y : ℤ) → x ≤ℤ y → int_le x y ≡ true
true_le x y l = by (int_le x y) refl
  where
    by : (b : Bool) → int_le x y ≡ b → b ≡ true
    by true e = refl
    by false e = absurd (omega (arith, ints, l, e))

pub range_tells : (x y z : ℤ) → has (range x y) z ≡ true → (int_le x z ≡ true) × (int_le z y ≡ true)
range_tells x y z h = by (int_le x y) refl h
  where
    by : (b : Bool) → int_le x y ≡ b → has (if b then upwards x (int_gap x y + 1) else []) z ≡ true → (int_le x z ≡ true) × (int_le z y ≡ true)
    by true e h =
        let p = up_tells x (int_gap x y + 1) z h in
        (true_le x z p.0, true_le z y (omega (arith, ints, p.1, gap_end x y (le_true x y e))))
    by false e h = cc

pub range_has : (x y z : ℤ) → int_le x z ≡ true → int_le z y ≡ true → has (range x y) z ≡ true
range_has x y z p q = by (int_le x y) refl
  where
    by : (b : Bool) → int_le x y ≡ b → has (if b then upwards x (int_gap x y + 1) else []) z ≡ true
    by true e = up_has x (int_gap x y + 1) z (le_true x z p) (omega (arith, ints, le_true z y q, gap_end x y (le_true x y e)))
    by false e = absurd (omega (arith, ints, le_true x z p, le_true z y q, e))
