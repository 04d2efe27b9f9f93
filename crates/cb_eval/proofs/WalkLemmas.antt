-- The walk over a domain gives each of its values once.
use Rattle.std.proofs.Common.{◌≡◌, ◌∙◌, ℕ, zero, suc, ◌+◌, ◌-◌, ◌*◌, ◌<◌, ◌/◌, ◌%◌, ◌^◌, ◌==◌, ℤ, pos, ◌+ℤ◌, ◌-ℤ◌, ◌<ℤ◌, ◌≤ℤ◌, int_le, int_lt, Bool, true, false, List, [], ◌∷◌, refl, sym, ap, ap₂, subst, arith, if◌then◌else◌, true≢false}
use Rattle.std.specs.Ordering.{int_eq}
use Rattle.std.specs.Int.{int_gap}
use Rattle.std.proofs.Math.Nat.{pow-suc}
use Rattle.std.proofs.lemmas.Bool.{and_from, and_parts}
use Rattle.std.proofs.lemmas.Int.{by_lt_z, ints}
use Rattle.cb_term.specs.declared.kind.Base.TheVariants as base
use Rattle.cb_term.specs.declared.kind.Domain.{Domain}
use Rattle.cb_term.specs.declared.kind.Domain.TheVariants as domain
use Rattle.cb_term.specs.declared.value.Value.{Value}
use Rattle.cb_term.specs.declared.value.Value.TheVariants as value
use Rattle.cb_term.specs.Sets.{IsAscending}
use Rattle.cb_term.specs.Values.{AreItems, size_of_set}
use Rattle.cb_spec.specs.Domains.{Within, AllWithin, In}
use Rattle.cb_eval.specs.Walks.{span, count_of, picked, value_number}
use Rattle.cb_eval.proofs.SetLemmas.{AllAbove, above_more, eq_tells, eq_self, gap_end, tail_of, above_of, ascending_cons, lt_true}

pub picked_step : (x : ℤ) (count i bits : ℕ) → i < count →
    picked (x +ℤ pos i) (count - i) bits ≡ (if (bits % 2) == 1 then (x +ℤ pos i) ∷ picked (x +ℤ pos (i + 1)) (count - (i + 1)) (bits / 2) else picked (x +ℤ pos (i + 1)) (count - (i + 1)) (bits / 2))
picked_step x count i bits l =
    let n : count - i ≡ suc (count - (i + 1)) = omega (arith, l) in
    let e : (x +ℤ pos i) +ℤ pos 1 ≡ x +ℤ pos (i + 1) = omega (arith, ints) in
    ap (λ m. picked (x +ℤ pos i) m bits) n
    ∙ ap (λ z. if (bits % 2) == 1 then (x +ℤ pos i) ∷ picked z (count - (i + 1)) (bits / 2) else picked z (count - (i + 1)) (bits / 2)) e

-- ---- how many numbers there are

pub span_end : (lo hi : ℤ) → lo ≤ℤ hi → (lo +ℤ pos (span lo hi)) ≡ (hi +ℤ pos 1)
span_end lo hi l = by (int_le lo hi) refl
  where
    by : (b : Bool) → int_le lo hi ≡ b → (lo +ℤ pos (if b then int_gap lo hi + 1 else 0)) ≡ (hi +ℤ pos 1)
    by true e = gap_end lo hi l
    by false e = absurd (omega (arith, ints, e, l))

pub span_none : (lo hi : ℤ) → hi <ℤ lo → span lo hi ≡ 0
span_none lo hi l = by (int_le lo hi) refl
  where
    by : (b : Bool) → int_le lo hi ≡ b → (if b then int_gap lo hi + 1 else 0) ≡ 0
    by true e = absurd (omega (arith, ints, e, l))
    by false e = refl

below_span : (lo hi : ℤ) (i : ℕ) → i < span lo hi → (lo +ℤ pos i) ≤ℤ hi
below_span lo hi i = by (int_le lo hi) refl
  where
    by : (b : Bool) → int_le lo hi ≡ b → i < (if b then int_gap lo hi + 1 else 0) → (lo +ℤ pos i) ≤ℤ hi
    by true e l = omega (arith, ints, l, gap_end lo hi (omega (arith, ints, e)))
    by false e l = absurd (omega (arith, l))

-- ---- sets told by their bits

le_true : (x y : ℤ) → x ≤ℤ y → int_le x y ≡ true
le_true x y l = grind (arith, ints)

picked_within : (z hi x : ℤ) (n bits : ℕ) → z ≤ℤ x → (x +ℤ pos n) ≤ℤ (hi +ℤ pos 1) → AllWithin z hi (picked x n bits)
picked_within z hi x zero bits a b = tt
picked_within z hi x (suc n) bits a b =
    let rest : AllWithin z hi (picked (x +ℤ pos 1) n (bits / 2)) = picked_within z hi (x +ℤ pos 1) n (bits / 2) (omega (arith, ints, a)) (omega (arith, ints, b)) in
    let here : Within z hi x = (a, omega (arith, ints, b)) in
    elim ((bits % 2) == 1) as (λ c. AllWithin z hi (if c then x ∷ picked (x +ℤ pos 1) n (bits / 2) else picked (x +ℤ pos 1) n (bits / 2))) [ true ↦ (here, rest) | false ↦ rest ]

picked_above : (z x : ℤ) (n bits : ℕ) → z <ℤ x → AllAbove z (picked x n bits)
picked_above z x zero bits l = tt
picked_above z x (suc n) bits l =
    let rest : AllAbove z (picked (x +ℤ pos 1) n (bits / 2)) = picked_above z (x +ℤ pos 1) n (bits / 2) (omega (arith, ints, l)) in
    elim ((bits % 2) == 1) as (λ c. AllAbove z (if c then x ∷ picked (x +ℤ pos 1) n (bits / 2) else picked (x +ℤ pos 1) n (bits / 2))) [ true ↦ (l, rest) | false ↦ rest ]

picked_ascends : (x : ℤ) (n bits : ℕ) → IsAscending (picked x n bits)
picked_ascends x zero bits = tt
picked_ascends x (suc n) bits =
    let rest : IsAscending (picked (x +ℤ pos 1) n (bits / 2)) = picked_ascends (x +ℤ pos 1) n (bits / 2) in
    let up : IsAscending (x ∷ picked (x +ℤ pos 1) n (bits / 2)) = ascending_cons x _ (picked_above x (x +ℤ pos 1) n (bits / 2) (omega (arith, ints))) rest in
    elim ((bits % 2) == 1) as (λ c. IsAscending (if c then x ∷ picked (x +ℤ pos 1) n (bits / 2) else picked (x +ℤ pos 1) n (bits / 2))) [ true ↦ up | false ↦ rest ]

-- items of an enumerated set are the numbers below its size
pub items_of : (sizes : List ℕ) (set : ℕ) (hi : ℤ) (xs : List ℤ) → hi <ℤ pos (size_of_set sizes set) → AllWithin (pos 0) hi xs → AreItems sizes (base.Elem set) xs
items_of sizes set hi [] l w = tt
items_of sizes set hi (x ∷ xs) l w =
    (and_from _ _ (le_true (pos 0) x w.0.0) (lt_true x (pos (size_of_set sizes set)) (omega (arith, ints, w.0.1, l))), items_of sizes set hi xs l w.1)

-- the bits of a set among the n numbers from x on
abbrev bits_of : ℤ → ℕ → List ℤ → ℕ
bits_of x zero ys = 0
bits_of x (suc n) [] = 0
bits_of x (suc n) (y ∷ ys) = if int_eq x y then 2 * bits_of (x +ℤ pos 1) n ys + 1 else 2 * bits_of (x +ℤ pos 1) n (y ∷ ys)

picked_empty : (x : ℤ) (n : ℕ) → picked x n 0 ≡ []
picked_empty x zero = refl
picked_empty x (suc n) = picked_empty (x +ℤ pos 1) n

no_bits : (x : ℤ) (n : ℕ) → bits_of x n [] ≡ 0
no_bits x zero = refl
no_bits x (suc n) = refl

eq_of : (a b : ℕ) → a ≡ b → (a == b) ≡ true
eq_of a b e = grind arith

ne_of : (a b : ℕ) → a < b → (a == b) ≡ false
ne_of a b l = grind arith

odd_step : (x : ℤ) (n m : ℕ) → picked x (suc n) (2 * m + 1) ≡ x ∷ picked (x +ℤ pos 1) n m
odd_step x n m =
    let bit : ((2 * m + 1) % 2 == 1) ≡ true = eq_of _ _ (omega arith) in
    let half : (2 * m + 1) / 2 ≡ m = omega arith in
    ap (λ c. if c then x ∷ picked (x +ℤ pos 1) n ((2 * m + 1) / 2) else picked (x +ℤ pos 1) n ((2 * m + 1) / 2)) bit
    ∙ ap (λ k. x ∷ picked (x +ℤ pos 1) n k) half

even_step : (x : ℤ) (n m : ℕ) → picked x (suc n) (2 * m) ≡ picked (x +ℤ pos 1) n m
even_step x n m =
    let bit : ((2 * m) % 2 == 1) ≡ false = ne_of _ _ (omega arith) in
    let half : (2 * m) / 2 ≡ m = omega arith in
    ap (λ c. if c then x ∷ picked (x +ℤ pos 1) n ((2 * m) / 2) else picked (x +ℤ pos 1) n ((2 * m) / 2)) bit
    ∙ ap (λ k. picked (x +ℤ pos 1) n k) half

from_more : (x hi : ℤ) (ys : List ℤ) → AllAbove x ys → AllWithin x hi ys → AllWithin (x +ℤ pos 1) hi ys
from_more x hi [] a w = tt
from_more x hi (y ∷ ys) a w = ((omega (arith, ints, a.0), w.0.1), from_more x hi ys a.1 w.1)

bits_below : (x : ℤ) (n : ℕ) (ys : List ℤ) → bits_of x n ys < 2 ^ n
bits_below x zero ys = omega arith
bits_below x (suc n) [] = omega (arith, pow-suc 2 n, bits_below x n [])
bits_below x (suc n) (y ∷ ys) = by (int_eq x y) (bits_below (x +ℤ pos 1) n ys) (bits_below (x +ℤ pos 1) n (y ∷ ys))
  where
    by : (c : Bool) → bits_of (x +ℤ pos 1) n ys < 2 ^ n → bits_of (x +ℤ pos 1) n (y ∷ ys) < 2 ^ n →
        (if c then 2 * bits_of (x +ℤ pos 1) n ys + 1 else 2 * bits_of (x +ℤ pos 1) n (y ∷ ys)) < 2 ^ suc n
    by true a b = omega (arith, pow-suc 2 n, a)
    by false a b = omega (arith, pow-suc 2 n, b)

less_of : (x y : ℤ) → int_eq x y ≡ false → x ≤ℤ y → x <ℤ y
less_of x y f l = by_lt_z x y (λ h. h) (λ g. let same : x ≡ y = omega (arith, ints, l, g) in absurd (true≢false (sym (eq_self y) ∙ ap (λ z. int_eq z y) (sym same) ∙ f)))

picked_bits : (x hi : ℤ) (n : ℕ) (ys : List ℤ) → (x +ℤ pos n) ≡ (hi +ℤ pos 1) → IsAscending ys → AllWithin x hi ys → picked x n (bits_of x n ys) ≡ ys
picked_bits x hi zero [] e up w = refl
picked_bits x hi zero (y ∷ ys) e up w = absurd (omega (arith, ints, e, w.0.0, w.0.1))
picked_bits x hi (suc n) [] e up w = picked_empty x (suc n)
picked_bits x hi (suc n) (y ∷ ys) e up w = by (int_eq x y) refl (picked_bits (x +ℤ pos 1) hi n ys) (picked_bits (x +ℤ pos 1) hi n (y ∷ ys))
  where
    next : ((x +ℤ pos 1) +ℤ pos n) ≡ (hi +ℤ pos 1)
    next = omega (arith, ints, e)

    by : (c : Bool) → int_eq x y ≡ c →
        (((x +ℤ pos 1) +ℤ pos n) ≡ (hi +ℤ pos 1) → IsAscending ys → AllWithin (x +ℤ pos 1) hi ys → picked (x +ℤ pos 1) n (bits_of (x +ℤ pos 1) n ys) ≡ ys) →
        (((x +ℤ pos 1) +ℤ pos n) ≡ (hi +ℤ pos 1) → IsAscending (y ∷ ys) → AllWithin (x +ℤ pos 1) hi (y ∷ ys) → picked (x +ℤ pos 1) n (bits_of (x +ℤ pos 1) n (y ∷ ys)) ≡ y ∷ ys) →
        picked x (suc n) (if c then 2 * bits_of (x +ℤ pos 1) n ys + 1 else 2 * bits_of (x +ℤ pos 1) n (y ∷ ys)) ≡ y ∷ ys
    by true f here past =
        let same : x ≡ y = eq_tells x y f in
        let above : AllAbove x ys = subst (λ z. AllAbove z ys) (sym same) (above_of y ys up) in
        odd_step x n _ ∙ ap₂ (λ z zs. z ∷ zs) same (here next (tail_of y ys up) (from_more x hi ys above w.1))
    by false f here past =
        let l : x <ℤ y = less_of x y f w.0.0 in
        even_step x n _ ∙ past next up (from_more x hi (y ∷ ys) (l, above_more x y ys l (above_of y ys up)) w)

picked_same : (x : ℤ) (n a b : ℕ) → a < 2 ^ n → b < 2 ^ n → picked x n a ≡ picked x n b → a ≡ b
picked_same x zero a b l m e = omega (arith, l, m)
picked_same x (suc n) a b l m e =
    by ((a % 2) == 1) refl ((b % 2) == 1) refl e
    (picked_same (x +ℤ pos 1) n (a / 2) (b / 2) (omega (arith, pow-suc 2 n, l)) (omega (arith, pow-suc 2 n, m)))
  where
    odd : (k : ℕ) → ((k % 2) == 1) ≡ true → k % 2 ≡ 1
    odd k t = grind arith

    even : (k : ℕ) → ((k % 2) == 1) ≡ false → k % 2 ≡ 0
    even k t = grind arith

    here : (c d : ℕ) → x ∷ picked (x +ℤ pos 1) n c ≡ picked (x +ℤ pos 1) n d → ⊥
    here c d e =
        let above : AllAbove x (x ∷ picked (x +ℤ pos 1) n c) = subst (AllAbove x) (sym e) (picked_above x (x +ℤ pos 1) n d (omega (arith, ints))) in
        omega (arith, ints, above.0)

    by : (c : Bool) → ((a % 2) == 1) ≡ c → (d : Bool) → ((b % 2) == 1) ≡ d →
        (if c then x ∷ picked (x +ℤ pos 1) n (a / 2) else picked (x +ℤ pos 1) n (a / 2)) ≡ (if d then x ∷ picked (x +ℤ pos 1) n (b / 2) else picked (x +ℤ pos 1) n (b / 2)) →
        (picked (x +ℤ pos 1) n (a / 2) ≡ picked (x +ℤ pos 1) n (b / 2) → a / 2 ≡ b / 2) → a ≡ b
    by true f true g e deep = let h : a / 2 ≡ b / 2 = deep (cc (e)) in omega (arith, h, odd a f, odd b g)
    by false f false g e deep = let h : a / 2 ≡ b / 2 = deep e in omega (arith, h, even a f, even b g)
    by true f false g e deep = absurd (here (a / 2) (b / 2) e)
    by false f true g e deep = absurd (here (b / 2) (a / 2) (sym e))

-- ---- the values of a domain

module _ (sizes : List ℕ) where
  -- each value that the walk gives is one of the domain
  pub walk_in : (d : Domain) (i : ℕ) → i < count_of sizes d → In sizes d (value_number sizes d i)
  walk_in (domain.Range lo hi) i l = (omega (arith, ints), below_span lo hi i l)
  walk_in domain.Truth i l = tt
  walk_in (domain.Elems set) i l = l
  walk_in (domain.Subsets lo hi) i l = (picked_ascends lo (span lo hi) i, subsets (int_le lo hi) refl)
    where
      subsets : (b : Bool) → int_le lo hi ≡ b → AllWithin lo hi (picked lo (span lo hi) i)
      subsets true e = picked_within lo hi lo (span lo hi) i (omega (arith, ints)) (omega (arith, ints, span_end lo hi (omega (arith, ints, e))))
      subsets false e = subst (λ n. AllWithin lo hi (picked lo n i)) (sym (ap (λ b. if b then int_gap lo hi + 1 else 0) e)) tt
  walk_in (domain.ElemSubsets set) i l =
      let n = size_of_set sizes set in
      (picked_ascends (pos 0) n i, items_of sizes set (pos n -ℤ pos 1) (picked (pos 0) n i) (omega (arith, ints)) (picked_within (pos 0) (pos n -ℤ pos 1) (pos 0) n i (omega (arith, ints)) (omega (arith, ints))))

  -- and each value of the domain has a number
  pub record Numbered (d : Domain) (v : Value) : Type 0 where
    pub number : ℕ
    pub below : number < count_of sizes d
    pub is : value_number sizes d number ≡ v

  pub items_within : (set : ℕ) (xs : List ℤ) → AreItems sizes (base.Elem set) xs → AllWithin (pos 0) (pos (size_of_set sizes set) -ℤ pos 1) xs
  items_within set [] are = tt
  items_within set (x ∷ xs) are =
      let p = and_parts (int_le (pos 0) x) (int_lt x (pos (size_of_set sizes set))) are.0 in
      ((omega (arith, ints, p.0), omega (arith, ints, p.1)), items_within set xs are.1)

  numbers_within : (lo hi x : ℤ) → lo ≤ℤ x → x ≤ℤ hi → (int_gap lo x < span lo hi) × ((lo +ℤ pos (int_gap lo x)) ≡ x)
  numbers_within lo hi x a b = (
    omega (arith, ints, a, b, gap_end lo x a, span_end lo hi (omega (arith, ints, a, b))),
    omega (arith, ints, gap_end lo x a),
  )

  pub numbered : (d : Domain) (v : Value) → In sizes d v → Numbered d v
  numbered (domain.Range lo hi) (value.Int x) w =
      let p = numbers_within lo hi x w.0 w.1 in
      record { number = int_gap lo x; below = p.0; is = ap value.Int p.1 }
  numbered domain.Truth (value.Truth true) w = record { number = 1; below = omega arith; is = refl }
  numbered domain.Truth (value.Truth false) w = record { number = 0; below = omega arith; is = refl }
  numbered (domain.Elems set) (value.Elem k) w = record { number = k; below = w; is = refl }
  numbered (domain.Subsets lo hi) (value.Set []) w = record { number = 0; below = subst (λ k. k < 2 ^ span lo hi) (no_bits lo (span lo hi)) (bits_below lo (span lo hi) []); is = ap value.Set (picked_empty lo (span lo hi)) }
  numbered (domain.Subsets lo hi) (value.Set (x ∷ xs)) w =
      let up = span_end lo hi (omega (arith, ints, w.1.0.0, w.1.0.1)) in
      record { number = bits_of lo (span lo hi) (x ∷ xs); below = bits_below lo (span lo hi) (x ∷ xs); is = ap value.Set (picked_bits lo hi (span lo hi) (x ∷ xs) up w.0 w.1) }
  numbered (domain.ElemSubsets set) (value.Set xs) w =
      let n = size_of_set sizes set in
      record { number = bits_of (pos 0) n xs; below = bits_below (pos 0) n xs; is = ap value.Set (picked_bits (pos 0) (pos n -ℤ pos 1) n xs (omega (arith, ints)) w.0 (items_within set xs w.1)) }
  numbered d v w = absurd w

  -- only one
  pub number_once : (d : Domain) (i j : ℕ) → i < count_of sizes d → j < count_of sizes d → value_number sizes d i ≡ value_number sizes d j → i ≡ j
  number_once (domain.Range lo hi) i j l m e = let n : (lo +ℤ pos i) ≡ (lo +ℤ pos j) = cc (e) in omega (arith, ints, n)
  number_once domain.Truth i j l m e = two i j l m (cc (e))
    where
      two : (i j : ℕ) → i < 2 → j < 2 → (i == 1) ≡ (j == 1) → i ≡ j
      two zero zero l m e = refl
      two (suc zero) (suc zero) l m e = refl
      two zero (suc zero) l m e = cc
      two (suc zero) zero l m e = cc
      two i j l m e = grind arith
  number_once (domain.Elems set) i j l m e = cc
  number_once (domain.Subsets lo hi) i j l m e = picked_same lo (span lo hi) i j l m (cc (e))
  number_once (domain.ElemSubsets set) i j l m e = picked_same (pos 0) (size_of_set sizes set) i j l m (cc (e))
