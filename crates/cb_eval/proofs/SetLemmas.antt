-- Finite sets as ascending lists.
use Rattle.std.proofs.Common.{◌≡◌, ℕ, zero, suc, ◌+◌, ◌<◌, ◌≤◌, ℤ, pos, negsuc, ◌+ℤ◌, ◌<ℤ◌, ◌≤ℤ◌, int_lt, int_le, Bool, true, false, ◌||◌, ◌&&◌, List, [], ◌∷◌, ◌++◌, length, filter, get_or, drop, map, Result, Ok, Err, refl, sym, ap, subst, ◌∙◌, arith, if◌then◌else◌, true≢false}
use Rattle.std.specs.Prelude.{cond, is_ok, nat_le, slice_index_or}
use Rattle.std.specs.Int.{int_gap}
use Rattle.std.specs.Ordering.{int_eq, int_cmp, ordering_index, is_lt}
use Rattle.std.specs.Cmp.{int_cmp_total}
use Rattle.std.specs.declared.cmp.Ordering.{Ordering}
use Rattle.std.specs.declared.cmp.Ordering.TheVariants.{Less, Equal, Greater}
use Rattle.std.specs.List as lists
use Rattle.std.specs.List.{HoldsAt, AllWithin, list_all}
use Rattle.std.specs.List.Sorted.{IsNonDecreasingBy, IsSortedBy, IsBinarySearchResult, IsPartitionPoint, IsSearchInRange}
use Rattle.std.proofs.lemmas.Bool.{and_parts, false_from_ne_true}
use Rattle.std.proofs.lemmas.Bool.Decides.{Decides-int_eq}
use Rattle.std.proofs.lemmas.Int.{by_lt_z, ints}
use Rattle.std.proofs.lemmas.List.Sorted.{searchable_from_sorted}
use Rattle.cb_term.specs.declared.table.SetNames.{SetNames}
use Rattle.cb_eval.specs.Evaluation.{is_ascending}
use Rattle.cb_term.specs.Sets.{IsAscending, has, insert, union, difference, is_subset, same_items, upwards, range}
use Rattle.cb_spec.proofs.DomainLemmas.{range_tells, range_has}

-- ---- numbers

pub eq_tells : (x y : ℤ) → int_eq x y ≡ true → x ≡ y
eq_tells x y = (Decides-int_eq x y).0

pub eq_self : (x : ℤ) → int_eq x x ≡ true
eq_self x = (Decides-int_eq x x).1 refl

lt_of : (x y : ℤ) → int_lt x y ≡ true → x <ℤ y
lt_of x y e = omega (arith, ints, e)

pub lt_true : (x y : ℤ) → x <ℤ y → int_lt x y ≡ true
lt_true x y l = grind (arith, ints)

pub lt_false : (x y : ℤ) → y ≤ℤ x → int_lt x y ≡ false
lt_false x y l = grind (arith, ints)

pub apart : (x y : ℤ) → x <ℤ y → int_eq x y ≡ false
apart x y l = false_from_ne_true (int_eq x y) (λ e. absurd (omega (arith, ints, l, eq_tells x y e)))

pub apart_back : (x y : ℤ) → y <ℤ x → int_eq x y ≡ false
apart_back x y l = false_from_ne_true (int_eq x y) (λ e. absurd (omega (arith, ints, l, eq_tells x y e)))

-- ---- what is above a number

abbrev pub AllAbove : ℤ → List ℤ → Type 0
AllAbove x [] = Unit {0}
AllAbove x (y ∷ ys) = (x <ℤ y) × AllAbove x ys

pub above_more : (x y : ℤ) (ys : List ℤ) → x <ℤ y → AllAbove y ys → AllAbove x ys
above_more x y [] l a = tt
above_more x y (z ∷ zs) l a = (omega (arith, ints, l, a.0), above_more x y zs l a.1)

pub tail_of : (x : ℤ) (ys : List ℤ) → IsAscending (x ∷ ys) → IsAscending ys
tail_of x [] up = tt
tail_of x (y ∷ ys) up = up.1

pub above_of : (x : ℤ) (ys : List ℤ) → IsAscending (x ∷ ys) → AllAbove x ys
above_of x [] up = tt
above_of x (y ∷ ys) up = (up.0, above_more x y ys up.0 (above_of y ys up.1))

pub ascending_cons : (x : ℤ) (ys : List ℤ) → AllAbove x ys → IsAscending ys → IsAscending (x ∷ ys)
ascending_cons x [] a up = tt
ascending_cons x (y ∷ ys) a up = (a.0, up)

pub lacks_above : (x z : ℤ) (ys : List ℤ) → AllAbove x ys → z ≤ℤ x → has ys z ≡ false
lacks_above x z [] a l = refl
lacks_above x z (y ∷ ys) a l = rw (apart_back y z (omega (arith, ints, a.0, l))) (lacks_above x z ys a.1 l)

-- ---- parts of a set

pub filter_above : (p : ℤ → Bool) (x : ℤ) (ys : List ℤ) → AllAbove x ys → AllAbove x (filter p ys)
filter_above p x [] a = tt
filter_above p x (y ∷ ys) a = elim (p y) as (λ b. AllAbove x (if b then y ∷ filter p ys else filter p ys)) [
  | true ↦ (a.0, filter_above p x ys a.1)
  | false ↦ filter_above p x ys a.1
]

pub filter_ascends : (p : ℤ → Bool) (xs : List ℤ) → IsAscending xs → IsAscending (filter p xs)
filter_ascends p [] up = tt
filter_ascends p (x ∷ xs) up = elim (p x) as (λ b. IsAscending (if b then x ∷ filter p xs else filter p xs)) [
  | true ↦ ascending_cons x (filter p xs) (filter_above p x xs (above_of x xs up)) (filter_ascends p xs (tail_of x xs up))
  | false ↦ filter_ascends p xs (tail_of x xs up)
]

-- ---- one item more

insert_above : (z x : ℤ) (ys : List ℤ) → z <ℤ x → AllAbove z ys → AllAbove z (insert x ys)
insert_above z x [] l a = (l, tt)
insert_above z x (y ∷ ys) l a =
    elim (int_lt x y) as (λ b. AllAbove z (if b then x ∷ (y ∷ ys) else (if int_eq x y then y ∷ ys else y ∷ insert x ys))) [
      | true ↦ (l, a)
      | false ↦ elim (int_eq x y) as (λ b. AllAbove z (if b then y ∷ ys else y ∷ insert x ys)) [ true ↦ a | false ↦ (a.0, insert_above z x ys l a.1) ]
    ]

pub insert_ascends : (x : ℤ) (ys : List ℤ) → IsAscending ys → IsAscending (insert x ys)
insert_ascends x [] up = tt
insert_ascends x (y ∷ ys) up = by (insert_ascends x ys (tail_of y ys up)) (int_lt x y) refl (int_eq x y) refl
  where
    by : IsAscending (insert x ys) → (b : Bool) → int_lt x y ≡ b → (c : Bool) → int_eq x y ≡ c → IsAscending (if b then x ∷ (y ∷ ys) else (if c then y ∷ ys else y ∷ insert x ys))
    by up' true e c f = (lt_of x y e, up)
    by up' false e true f = up
    by up' false e false f =
        let l : y <ℤ x = by_lt_z y x (λ l. l) (λ g. let same : x ≡ y = omega (arith, ints, e, g) in absurd (true≢false (sym ((Decides-int_eq x y).1 same) ∙ f))) in
        ascending_cons y (insert x ys) (insert_above y x ys l (above_of y ys up)) up'

pub has_insert : (x : ℤ) (ys : List ℤ) (z : ℤ) → has (insert x ys) z ≡ (int_eq x z || has ys z)
has_insert x [] z = refl
has_insert x (y ∷ ys) z = by (has_insert x ys z) (int_lt x y) (int_eq x y) refl
  where
    same : (b : Bool) (c : Bool) → (b ≡ c) → (c || has ys z) ≡ (b || (c || has ys z))
    same true true e = refl
    same false c e = refl
    same true false e = absurd (true≢false e)

    turned : (b c d : Bool) → (c || (b || d)) ≡ (b || (c || d))
    turned true true d = refl
    turned true false d = refl
    turned false true d = refl
    turned false false d = refl

    by : has (insert x ys) z ≡ (int_eq x z || has ys z) → (b c : Bool) → int_eq x y ≡ c → has (if b then x ∷ (y ∷ ys) else (if c then y ∷ ys else y ∷ insert x ys)) z ≡ (int_eq x z || (int_eq y z || has ys z))
    by h true c f = refl
    by h false true f = same (int_eq x z) (int_eq y z) (ap (λ w. int_eq w z) (eq_tells x y f))
    by h false false f = rw h (turned (int_eq x z) (int_eq y z) (has ys z))

-- ---- the items of two sets

pub union_above : (z : ℤ) (xs ys : List ℤ) → AllAbove z xs → AllAbove z ys → AllAbove z (union xs ys)
union_above z [] ys a b = b
union_above z (x ∷ xs) ys a b = insert_above z x (union xs ys) a.0 (union_above z xs ys a.1 b)

pub union_ascends : (xs ys : List ℤ) → IsAscending ys → IsAscending (union xs ys)
union_ascends [] ys up = up
union_ascends (x ∷ xs) ys up = insert_ascends x (union xs ys) (union_ascends xs ys up)

pub has_union : (xs ys : List ℤ) (z : ℤ) → has (union xs ys) z ≡ (has xs z || has ys z)
has_union [] ys z = refl
has_union (x ∷ xs) ys z = has_insert x (union xs ys) z ∙ ap (λ b. int_eq x z || b) (has_union xs ys z) ∙ assoc (int_eq x z) (has xs z) (has ys z)
  where
    assoc : (b c d : Bool) → (b || (c || d)) ≡ ((b || c) || d)
    assoc true c d = refl
    assoc false c d = refl

insert_front : (x : ℤ) (ys : List ℤ) → AllAbove x ys → insert x ys ≡ x ∷ ys
insert_front x [] a = refl
insert_front x (y ∷ ys) a = rw (lt_true x y a.0) refl

insert_past : (x y : ℤ) (ys : List ℤ) → y <ℤ x → insert x (y ∷ ys) ≡ y ∷ insert x ys
insert_past x y ys l = rw (lt_false x y (omega (arith, ints, l)), lt_true y x l) refl

insert_same : (x : ℤ) (ys : List ℤ) → insert x (x ∷ ys) ≡ x ∷ ys
insert_same x ys = rw (lt_false x x (omega (arith, ints))) refl

-- the less item of the two sets comes first
pub union_right : (y : ℤ) (xs ys : List ℤ) → AllAbove y xs → union xs (y ∷ ys) ≡ y ∷ union xs ys
union_right y [] ys a = refl
union_right y (x ∷ xs) ys a = ap (insert x) (union_right y xs ys a.1) ∙ insert_past x y (union xs ys) a.0

pub union_both : (x : ℤ) (xs ys : List ℤ) → AllAbove x xs → union (x ∷ xs) (x ∷ ys) ≡ x ∷ union xs ys
union_both x xs ys a = ap (insert x) (union_right x xs ys a) ∙ insert_same x (union xs ys)

pub union_left : (x : ℤ) (xs ys : List ℤ) → AllAbove x xs → AllAbove x ys → union (x ∷ xs) ys ≡ x ∷ union xs ys
union_left x xs ys a b = insert_front x (union xs ys) (union_above x xs ys a b)

-- ---- upwards

upwards_above : (z x : ℤ) (n : ℕ) → z <ℤ x → AllAbove z (upwards x n)
upwards_above z x zero l = tt
upwards_above z x (suc n) l = (l, upwards_above z (x +ℤ pos 1) n (omega (arith, ints, l)))

pub upwards_ascends : (x : ℤ) (n : ℕ) → IsAscending (upwards x n)
upwards_ascends x zero = tt
upwards_ascends x (suc n) = ascending_cons x (upwards (x +ℤ pos 1) n) (upwards_above x (x +ℤ pos 1) n (omega (arith, ints))) (upwards_ascends (x +ℤ pos 1) n)

pub upwards_more : (x : ℤ) (n : ℕ) → upwards x (suc n) ≡ upwards x n ++ (x +ℤ pos n) ∷ []
upwards_more x zero = let e : x ≡ x +ℤ pos 0 = omega (arith, ints) in ap (λ w. w ∷ []) e
upwards_more x (suc n) =
    let e : (x +ℤ pos 1) +ℤ pos n ≡ x +ℤ pos (suc n) = omega (arith, ints) in
    ap (λ ws. x ∷ ws) (upwards_more (x +ℤ pos 1) n) ∙ ap (λ w. x ∷ (upwards (x +ℤ pos 1) n ++ w ∷ [])) e

-- ---- a search

cmp_less : (z x : ℤ) → int_cmp z x ≡ Less → z <ℤ x
cmp_less z x = by (int_lt z x) refl (int_lt x z)
  where
    by : (b : Bool) → int_lt z x ≡ b → (c : Bool) → cond b Less (cond c Greater Equal) ≡ Less → z <ℤ x
    by true e c h = lt_of z x e
    by false e true h = cc
    by false e false h = cc

cmp_greater : (z x : ℤ) → int_cmp z x ≡ Greater → x <ℤ z
cmp_greater z x = by (int_lt z x) (int_lt x z) refl
  where
    by : (b c : Bool) → int_lt x z ≡ c → cond b Less (cond c Greater Equal) ≡ Greater → x <ℤ z
    by b true e h = lt_of x z e
    by true false e h = cc
    by false false e h = cc

cmp_equal : (z x : ℤ) → int_cmp z x ≡ Equal → int_eq z x ≡ true
cmp_equal z x e = rw e refl

abbrev pub Is : Ordering → ℤ → ℤ → Type 0
Is o x z = int_cmp z x ≡ o

rises : (xs : List ℤ) → IsAscending xs → (k : ℕ) (d : ℤ) → suc k < length xs → is_lt (int_cmp (get_or xs (suc k) d) (get_or xs k d)) ≡ false
rises [] up k d hi = absurd (omega (arith, hi))
rises (x ∷ []) up k d hi = absurd (omega (arith, hi))
rises (x ∷ y ∷ ys) up zero d hi = rw (lt_false y x (omega (arith, ints, up.0)), lt_true x y up.0) refl
rises (x ∷ y ∷ ys) up (suc k) d hi = rises (y ∷ ys) up.1 k d (omega (arith, hi))

neighbours : (xs : List ℤ) → IsAscending xs → IsSortedBy (λ a b. is_lt (int_cmp a b)) xs
neighbours xs up k d lo hi =
    subst (λ n. is_lt (int_cmp (get_or xs n d) (get_or xs k d)) ≡ false) {x = suc k} {y = k + 1} (omega arith) (rises xs up k d (omega (arith, hi)))

searchable : (xs : List ℤ) (x : ℤ) → IsAscending xs → IsNonDecreasingBy (λ z. ordering_index (int_cmp z x)) xs
searchable xs x up = searchable_from_sorted int_cmp_total (λ (z : ℤ). z) xs x (neighbours xs up)

has_at : (xs : List ℤ) (i : ℕ) (x : ℤ) → i < length xs → HoldsAt (Is Equal x) xs i → has xs x ≡ true
has_at [] i x h at = absurd (omega (arith, h))
has_at (y ∷ ys) zero x h at = rw (cmp_equal y x (at y)) refl
has_at (y ∷ ys) (suc i) x h at = rw (has_at ys i x (omega (arith, h)) at) (either (int_eq y x))
  where
    either : (b : Bool) → (b || true) ≡ true
    either true = refl
    either false = refl

within_rest : (P : ℤ → Type 0) (y : ℤ) (ys : List ℤ) (hi : ℕ) → AllWithin P (y ∷ ys) 0 (suc hi) → AllWithin P ys 0 hi
within_rest P y ys hi h k d lo below = h (suc k) d (omega arith) (omega (arith, below))

within_tail : (P : ℤ → Type 0) (y : ℤ) (ys : List ℤ) (lo hi : ℕ) → AllWithin P (y ∷ ys) (suc lo) (suc hi) → AllWithin P ys lo hi
within_tail P y ys lo hi h k d from below = h (suc k) d (omega (arith, from)) (omega (arith, below))

lacks_gap : (xs : List ℤ) (i : ℕ) (x : ℤ) → AllWithin (Is Less x) xs 0 i → AllWithin (Is Greater x) xs i (length xs) → has xs x ≡ false
lacks_gap [] i x less greater = refl
lacks_gap (y ∷ ys) zero x less greater =
    rw (apart_back y x (cmp_greater y x (greater 0 y (omega arith) (omega arith))))
    (lacks_gap ys zero x (λ k d lo hi. absurd (omega (arith, hi))) (within_rest (Is Greater x) y ys (length ys) greater))
lacks_gap (y ∷ ys) (suc i) x less greater =
    rw (apart y x (cmp_less y x (less 0 y (omega arith) (omega arith))))
    (lacks_gap ys i x (within_rest (Is Less x) y ys i less) (within_tail (Is Greater x) y ys i (length ys) greater))

pub search_tells : (r : Result ℕ ℕ) (xs : List ℤ) (x : ℤ) → IsAscending xs → IsSearchInRange r (length xs) → IsBinarySearchResult (λ z. int_cmp z x) xs r → is_ok r ≡ has xs x
search_tells (Ok i) xs x up within at = sym (has_at xs i x within at)
search_tells (Err i) xs x up within gap = let g = gap (searchable xs x up) in sym (lacks_gap xs i x g.0 g.1)

-- ---- where an item goes

pub insert_has : (xs : List ℤ) (x : ℤ) → IsAscending xs → has xs x ≡ true → insert x xs ≡ xs
insert_has [] x up h = cc
insert_has (y ∷ ys) x up h = by (insert_has ys x (tail_of y ys up)) (int_lt x y) refl (int_eq x y) refl
  where
    by : (has ys x ≡ true → insert x ys ≡ ys) → (b : Bool) → int_lt x y ≡ b → (c : Bool) → int_eq x y ≡ c → (if b then x ∷ (y ∷ ys) else (if c then y ∷ ys else y ∷ insert x ys)) ≡ y ∷ ys
    by deep true e c f = absurd (true≢false (sym h ∙ ap (λ d. d || has ys x) (apart_back y x (lt_of x y e)) ∙ lacks_above y x ys (above_of y ys up) (omega (arith, ints, e))))
    by deep false e true f = refl
    by deep false e false f =
        let ne : int_eq y x ≡ false = false_from_ne_true (int_eq y x) (λ t. true≢false (sym ((Decides-int_eq x y).1 (sym (eq_tells y x t))) ∙ f)) in
        let inside : has ys x ≡ true = sym (ap (λ d. d || has ys x) ne) ∙ h in
        ap (λ zs. y ∷ zs) (deep inside)

pub insert_gap : (xs : List ℤ) (i : ℕ) (x : ℤ) → i ≤ length xs → AllWithin (Is Less x) xs 0 i → AllWithin (Is Greater x) xs i (length xs) → lists.insert xs i x ≡ insert x xs
insert_gap [] zero x within less greater = refl
insert_gap [] (suc i) x within less greater = absurd (omega (arith, within))
insert_gap (y ∷ ys) zero x within less greater = rw (lt_true x y (cmp_greater y x (greater 0 y (omega arith) (omega arith)))) refl
insert_gap (y ∷ ys) (suc i) x within less greater =
    let l : y <ℤ x = cmp_less y x (less 0 y (omega arith) (omega arith)) in
    rw (lt_false x y (omega (arith, ints, l)), lt_true y x l)
    (ap (λ zs. y ∷ zs) (insert_gap ys i x (omega (arith, within)) (within_rest (Is Less x) y ys i less) (within_tail (Is Greater x) y ys i (length ys) greater)))

-- the same for a list that the search has seen as `slice`
module _ (i : ℕ) (slice xs : List ℤ) (x : ℤ) (same : slice ≡ xs) (up : IsAscending xs) where
  pub searched_insert : i ≤ length slice → IsBinarySearchResult (λ z. int_cmp z x) slice (Err i) → lists.insert xs i x ≡ insert x xs
  searched_insert within gap =
      let P : List ℤ → Type 0 = λ zs. IsPartitionPoint (Is Less x) (Is Greater x) zs i in
      let g = subst P same (gap (searchable slice x (subst IsAscending (sym same) up))) in
      insert_gap xs i x (subst (λ zs. i ≤ length zs) same within) g.0 g.1

  pub searched_here : i < length slice → HoldsAt (Is Equal x) slice i → xs ≡ insert x xs
  searched_here within at =
      sym (insert_has xs x up (has_at xs i x (subst (λ zs. i < length zs) same within) (subst (λ zs. HoldsAt (Is Equal x) zs i) same at)))

-- ---- unlike lengths

pub unlike_lengths : (xs ys : List ℤ) → (length xs ≡ length ys → ⊥) → false ≡ same_items xs ys
unlike_lengths [] [] ne = absurd (ne refl)
unlike_lengths [] (y ∷ ys) ne = refl
unlike_lengths (x ∷ xs) [] ne = refl
unlike_lengths (x ∷ xs) (y ∷ ys) ne = no_and (int_eq x y) (same_items xs ys) (unlike_lengths xs ys (λ e. ne (ap suc e)))
  where
    no_and : (b c : Bool) → false ≡ c → false ≡ (b && c)
    no_and true c e = e
    no_and false c e = refl

-- ---- parts of an ascending list

pub drop_ascends : (i : ℕ) (xs : List ℤ) → IsAscending xs → IsAscending (drop i xs)
drop_ascends zero xs up = up
drop_ascends (suc i) [] up = tt
drop_ascends (suc i) (x ∷ xs) up = drop_ascends i xs (tail_of x xs up)

-- the first set's next item, which the second lacks
pub difference_more : (x : ℤ) (xs ys : List ℤ) → has ys x ≡ false → difference (x ∷ xs) ys ≡ x ∷ difference xs ys
difference_more x xs ys e = rw e refl

-- ---- ranges

pub length_upwards : (x : ℤ) (n : ℕ) → length (upwards x n) ≡ n
length_upwards x zero = refl
length_upwards x (suc n) = ap suc (length_upwards (x +ℤ pos 1) n)

pub gap_end : (x y : ℤ) → x ≤ℤ y → (x +ℤ pos (int_gap x y + 1)) ≡ (y +ℤ pos 1)
gap_end (pos a) (pos b) l = omega (arith, ints, l)
gap_end (pos a) (negsuc b) l = absurd (omega (arith, ints, l))
gap_end (negsuc a) (pos b) l = omega (arith, ints)
gap_end (negsuc a) (negsuc b) l = omega (arith, ints, l)

-- a range with more than 256 items
pub range_is_long : (x y : ℤ) → (x +ℤ pos 256) ≤ℤ y → nat_le (length (range x y)) 256 ≡ false
range_is_long x y l = by (int_le x y) refl
  where
    by : (b : Bool) → int_le x y ≡ b → nat_le (length (if b then upwards x (int_gap x y + 1) else [])) 256 ≡ false
    by true e =
        let n : 256 < length (upwards x (int_gap x y + 1)) = omega (arith, ints, l, length_upwards x (int_gap x y + 1), gap_end x y (omega (arith, ints, l))) in
        grind arith
    by false e = absurd (omega (arith, ints, e, l))

-- ---- the test of a list's order

pub ascending_tells : (xs : List ℤ) → is_ascending xs ≡ true → IsAscending xs
ascending_tells [] e = tt
ascending_tells (x ∷ []) e = tt
ascending_tells (x ∷ y ∷ ys) e = let p = and_parts (int_lt x y) (is_ascending (y ∷ ys)) e in (lt_of x y p.0, ascending_tells (y ∷ ys) p.1)

pub ascending_short : (xs : List ℤ) → length xs ≤ 1 → is_ascending xs ≡ true
ascending_short [] l = refl
ascending_short (x ∷ []) l = refl
ascending_short (x ∷ y ∷ ys) l = absurd (omega (arith, l))

-- ---- the sizes of enumerated sets

pub size_here : (sets : List SetNames) (k : ℕ) (s : SetNames) → k < length sets → s ≡ get_or sets k s → length s.elements ≡ slice_index_or (map (λ (s : SetNames). length s.elements) sets) k 0
size_here [] k s l e = absurd (omega (arith, l))
size_here (t ∷ sets) zero s l e = ap (λ (s : SetNames). length s.elements) e
size_here (t ∷ sets) (suc k) s l e = size_here sets k s (omega (arith, l)) e

pub size_past : (sets : List SetNames) (k : ℕ) → length sets ≤ k → 0 ≡ slice_index_or (map (λ (s : SetNames). length s.elements) sets) k 0
size_past [] k l = refl
size_past (t ∷ sets) zero l = absurd (omega (arith, l))
size_past (t ∷ sets) (suc k) l = size_past sets k (omega (arith, l))

-- ---- what is in a range

pub range_test : (x y z : ℤ) → has (range x y) z ≡ (int_le x z && int_le z y)
range_test x y z = by (int_le x z) refl (int_le z y) refl
  where
    by : (b : Bool) → int_le x z ≡ b → (c : Bool) → int_le z y ≡ c → has (range x y) z ≡ (b && c)
    by true e true f = range_has x y z (omega (arith, ints, e), omega (arith, ints, f))
    by true e false f = false_from_ne_true _ (λ h. let w = range_tells x y z h in absurd (omega (arith, ints, f, w.1)))
    by false e c f = false_from_ne_true _ (λ h. let w = range_tells x y z h in absurd (omega (arith, ints, e, w.0)))

pub within_test : (x y : ℤ) (zs : List ℤ) → is_subset zs (range x y) ≡ list_all (λ z. int_le x z && int_le z y) zs
within_test x y zs = λ i. list_all (λ z. range_test x y z i) zs
