use Rattle.std.proofs.Common.{◌≡◌, ℕ, ◌≤◌, ◌<◌, ◌+◌, ◌*◌, ◌-◌, Bool, true, false, List, [], ◌∷◌, arith, refl, cond, sym, length, drop, zero, suc}
use Rattle.std.specs.Prelude.{Option, Some, None, nat_le}
use Rattle.std.specs.Char.{is_ascii_digit, is_ascii_alphabetic}
use Rattle.cb_lex.specs.Lexis.{value_from, number_of, comment_from, closes, starts, is_word, run_length}

-- the number that digits say, digit by digit, after a number that was said
abbrev pub number_from : ℕ → ℕ → List ℕ → Option ℕ
number_from limit n [] = Some n
number_from limit n (d ∷ ds) = cond (nat_le (n * 10 + (d - 48)) limit) (number_from limit (n * 10 + (d - 48)) ds) None

-- more digits never say less
value_grows : (n : ℕ) (ds : List ℕ) → n ≤ value_from n ds
value_grows n [] = omega arith
value_grows n (d ∷ ds) = omega (arith, value_grows (n * 10 + (d - 48)) ds)

below : {A : Type 0} (x y : A) (a b : ℕ) → a ≤ b → cond (nat_le a b) x y ≡ x
below x y a b h = let e : nat_le a b ≡ true = grind arith in rw e refl

above : {A : Type 0} (x y : A) (a b : ℕ) → b < a → cond (nat_le a b) x y ≡ y
above x y a b h = let e : nat_le a b ≡ false = grind arith in rw e refl

number_is_from : (limit n : ℕ) (ds : List ℕ) → n ≤ limit → number_from limit n ds ≡ cond (nat_le (value_from n ds) limit) (Some (value_from n ds)) None
number_is_from limit n [] h = sym (below (Some n) None n limit h)
number_is_from limit n (d ∷ ds) h = go (nat_le (n * 10 + (d - 48)) limit) refl (number_is_from limit (n * 10 + (d - 48)) ds)
  where
    go : (t : Bool) → nat_le (n * 10 + (d - 48)) limit ≡ t → (n * 10 + (d - 48) ≤ limit → number_from limit (n * 10 + (d - 48)) ds ≡ cond (nat_le (value_from (n * 10 + (d - 48)) ds) limit) (Some (value_from (n * 10 + (d - 48)) ds)) None) → number_from limit n (d ∷ ds) ≡ cond (nat_le (value_from n (d ∷ ds)) limit) (Some (value_from n (d ∷ ds))) None
    go true e more = rw e (more (grind arith))
    go false e more =
        let g : limit < n * 10 + (d - 48) = grind arith in
        let k : limit < value_from (n * 10 + (d - 48)) ds = omega (arith, value_grows (n * 10 + (d - 48)) ds) in
        rw e (sym (above (Some (value_from (n * 10 + (d - 48)) ds)) None (value_from (n * 10 + (d - 48)) ds) limit k))

-- digit by digit is the same as the whole number against the limit
pub number_of_is : (limit : ℕ) (ds : List ℕ) → number_of limit ds ≡ number_from limit 0 ds
unfolding number_of
number_of_is limit ds = sym (number_is_from limit 0 ds (omega arith))

pub comment_next : (n i : ℕ) (bs : List ℕ) → i < length bs → closes (drop i bs) ≡ false → comment_from n (drop i bs) ≡ comment_from (n + 1) (drop (i + 1) bs)
comment_next n i bs h e = let q : i + 1 ≡ suc i = omega arith in rw q (go i bs h e)
  where
    at_front : (bs : List ℕ) → 0 < length bs → closes bs ≡ false → comment_from n bs ≡ comment_from (n + 1) (drop 1 bs)
    at_front [] h e = absurd (omega arith)
    at_front (a ∷ bs) h e = rw e refl

    go : (i : ℕ) (bs : List ℕ) → i < length bs → closes (drop i bs) ≡ false → comment_from n (drop i bs) ≡ comment_from (n + 1) (drop (suc i) bs)
    go zero bs h e = at_front bs h e
    go (suc i) [] h e = absurd (omega arith)
    go (suc i) (a ∷ bs) h e = go i bs (omega arith) e

pub letter_run : (bs : List ℕ) → starts is_ascii_alphabetic bs ≡ true → 0 < run_length is_word bs
letter_run [] e = absurd (cc)
letter_run (b ∷ bs) e = go b e
  where
    go : (b : ℕ) → is_ascii_alphabetic b ≡ true → 0 < run_length is_word (b ∷ bs)
    go b e = let q : is_word b ≡ true = grind arith in rw q (omega arith)

pub digit_run : (bs : List ℕ) → starts is_ascii_digit bs ≡ true → 0 < run_length is_ascii_digit bs
digit_run [] e = absurd (cc)
digit_run (b ∷ bs) e = let q : is_ascii_digit b ≡ true = e in rw q (omega arith)
