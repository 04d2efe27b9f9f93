-- Bits of numbers.
use Rattle.std.proofs.Common.{◌≡◌, ℕ, zero, suc, ◌+◌, ◌*◌, ◌/◌, ◌%◌, ◌^◌, ◌<◌, ◌≤◌, Bool, true, false, eqb, List, [], ◌∷◌, ◌++◌, length, refl, sym, ap, subst, ◌∙◌, arith}
use Rattle.std.proofs.lemmas.Bool.{eqb-true, eqb-false}
use Rattle.std.proofs.lemmas.Nat.{pow_below}
use Rattle.std.proofs.lemmas.Grind.{pow_more}
use Rattle.cb_spec.specs.Settling.{number_of}
use Rattle.cb_code.specs.Sides.{is_odd, sides_of}

two_suc : (n : ℕ) → 2 ^ suc n ≡ 2 * 2 ^ n
two_suc n = subst (λ k. 2 ^ k ≡ 2 * 2 ^ n) {x = n + 1} {y = suc n} (omega arith) (omega (arith, pow_more 2 n))

none : (bits : ℕ) → bits < 2 ^ 0 → bits ≡ 0
none bits l = omega (arith, l)

half_below : (n bits : ℕ) → bits < 2 ^ suc n → bits / 2 < 2 ^ n
half_below n bits l = omega (arith, two_suc n, l)

pub sides_length : (n bits : ℕ) → length (sides_of n bits) ≡ n
sides_length zero bits = refl
sides_length (suc n) bits = ap suc (sides_length n (bits / 2))

pub left_side : (n bits : ℕ) → bits < 2 ^ n → sides_of (suc n) bits ≡ sides_of n bits ++ false ∷ []
left_side zero bits l = ap (sides_of 1) (none bits l)
left_side (suc n) bits l = ap (λ (xs : List Bool). is_odd bits ∷ xs) (left_side n (bits / 2) (half_below n bits l))

pub right_side : (n bits : ℕ) → bits < 2 ^ n → sides_of (suc n) (bits + 2 ^ n) ≡ sides_of n bits ++ true ∷ []
right_side zero bits l = ap (λ b. sides_of 1 (b + 1)) (none bits l)
right_side (suc n) bits l =
    let head : is_odd (bits + 2 ^ suc n) ≡ is_odd bits = ap (λ b. eqb b 1) (omega (arith, two_suc n)) in
    let rest : (bits + 2 ^ suc n) / 2 ≡ bits / 2 + 2 ^ n = omega (arith, two_suc n) in
    (λ i. head i ∷ sides_of (suc n) (rest i)) ∙ ap (λ (xs : List Bool). is_odd bits ∷ xs) (right_side n (bits / 2) (half_below n bits l))

front : (bits : ℕ) (xs : List Bool) → number_of xs ≡ bits / 2 → number_of (is_odd bits ∷ xs) ≡ bits
front bits xs e = by (is_odd bits) refl
  where
    by : (b : Bool) → is_odd bits ≡ b → number_of (b ∷ xs) ≡ bits
    by true h = let o = eqb-true (bits % 2) 1 h in omega (arith, e, o)
    by false h =
        let o : bits % 2 ≡ 0 = even (bits % 2) (omega arith) (eqb-false (bits % 2) 1 h) in omega (arith, e, o)
      where
        even : (r : ℕ) → r < 2 → (r ≡ 1 → ⊥) → r ≡ 0
        even zero l n = refl
        even (suc zero) l n = absurd (n refl)
        even (suc (suc r)) l n = absurd (omega (arith, l))

pub number_is : (n bits : ℕ) → bits < 2 ^ n → number_of (sides_of n bits) ≡ bits
number_is zero bits l = sym (none bits l)
number_is (suc n) bits l = front bits (sides_of n (bits / 2)) (number_is n (bits / 2) (half_below n bits l))

pub below_word : (n : ℕ) → n < 64 → 2 ^ n < 2 ^ 64
below_word n l = pow_below n 64 l

pub sum_below : (n bits : ℕ) → bits < 2 ^ n → bits + 2 ^ n < 2 ^ suc n
sum_below n bits l = omega (arith, two_suc n, l)

pub at_most_word : (n : ℕ) → n ≤ 64 → 2 ^ n ≤ 2 ^ 64
at_most_word n l = by (eqb n 64) refl
  where
    by : (b : Bool) → eqb n 64 ≡ b → 2 ^ n ≤ 2 ^ 64
    by true h = subst (λ (m : ℕ). 2 ^ m ≤ 2 ^ 64) (sym (eqb-true n 64 h)) (omega arith)
    by false h = omega (arith, pow_below n 64 (below (eqb-false n 64 h)))
      where
        below : (n ≡ 64 → ⊥) → n < 64
        below d = omega (arith, l, d)

pub pushed_left : (n b n' b' : ℕ) (self : List Bool) (side : Bool) → sides_of n b ≡ self → b < 2 ^ n → n' ≡ n → b' ≡ b → side ≡ false → sides_of (n' + 1) b' ≡ self ++ side ∷ []
pushed_left n b n' b' self side view low same bits is =
    subst (λ k. sides_of k b' ≡ self ++ side ∷ []) {x = suc n} {y = n' + 1} (omega (arith, same))
    (ap (sides_of (suc n)) bits ∙ left_side n b low ∙ (λ i. view i ++ sym is i ∷ []))

pub pushed_right : (n b n' b' : ℕ) (self : List Bool) (side : Bool) → sides_of n b ≡ self → b < 2 ^ n → n' ≡ n → b' ≡ b + 2 ^ n → side ≡ true → sides_of (n' + 1) b' ≡ self ++ side ∷ []
pushed_right n b n' b' self side view low same bits is =
    subst (λ k. sides_of k b' ≡ self ++ side ∷ []) {x = suc n} {y = n' + 1} (omega (arith, same))
    (ap (sides_of (suc n)) bits ∙ right_side n b low ∙ (λ i. view i ++ sym is i ∷ []))
