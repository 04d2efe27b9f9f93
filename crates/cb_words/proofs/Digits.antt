-- The number of decimal digits, read one by one.
use Rattle.std.proofs.Common.{◌≡◌, ℕ, ◌+◌, ◌*◌, ◌-◌, ◌<◌, ◌≤◌, List, length, take, get_or, arith, true, false, None, refl}
use Rattle.std.specs.Prelude.{nat_le}
use Rattle.std.specs.Char.{is_ascii_digit}
use Rattle.std.specs.List.{list_all}
use Rattle.std.specs.Int.{IsInRange}
use Rattle.std.specs.Str.Parse.{digits_value}
use Rattle.std.proofs.lemmas.Int.Digits.{digits_value_more}
use Rattle.std.proofs.lemmas.List.Elements.{All-get_or}
use Rattle.std.proofs.lemmas.List.Sums.{AllPass-from_list_all}
use Rattle.std.proofs.lemmas.Str.{digit_value_digit}
use Rattle.std.proofs.lemmas.Str.Parse.{digits_value-take-le}
use Rattle.cb_words.specs.Numbers.{at_most, is_number, number_of}

digit_of : (c : ℕ) → is_ascii_digit c ≡ true → IsInRange 48 57 c
digit_of c digit = grind arith

all_of : (text : List ℕ) → is_number text ≡ true → list_all is_ascii_digit text ≡ true
all_of text number = grind arith

pub digit_at : (text : List ℕ) (i : ℕ) → is_number text ≡ true → i < length text → IsInRange 48 57 (get_or text i 0)
digit_at text i number within =
    digit_of _ (All-get_or (λ c. is_ascii_digit c ≡ true) text i 0 within (AllPass-from_list_all is_ascii_digit text (all_of text number)))

pub value_next : (text : List ℕ) (i n : ℕ) → is_number text ≡ true → i < length text → n ≡ digits_value 10 (take i text) →
    n * 10 + (get_or text i 0 - 48) ≡ digits_value 10 (take (i + 1) text)
value_next text i n number within so_far =
    let digit = digit_at text i number within in
    omega (arith, digits_value_more 10 text i within, digit_value_digit (get_or text i 0) digit, so_far)

-- the first digits are above the bound, so the number is
pub above_bound : (text : List ℕ) (i most : ℕ) → is_number text ≡ true → most < digits_value 10 (take i text) →
    at_most most (number_of text) ≡ None
above_bound text i most number above =
    let more : digits_value 10 (take i text) ≤ digits_value 10 text = digits_value-take-le 10 text i (omega arith) in
    let no : nat_le (digits_value 10 text) most ≡ false = grind arith in
    rw (number, no) refl
