-- The numbers that words spell in decimal digits.
use Rattle.std.specs.Prelude.{ℕ, List, length, Bool, not, ◌&&◌, ◌==◌, nat_lt, nat_le, slice_index, if◌then◌else◌, Some, None}
use Rattle.std.specs.Char.{is_ascii_digit}
use Rattle.std.specs.List.{list_all}
use Rattle.std.specs.Str.Parse.{digits_value}
use Rattle.std.specs.declared.option.Option.{Option}

-- 48 is the digit 0
abbrev pub has_leading_zero : List ℕ → Bool
has_leading_zero text = nat_lt 1 (length text) && (slice_index text 0 == 48)

-- one digit or more, and nothing else: no sign, and no zero before other digits
abbrev pub is_number : List ℕ → Bool
is_number text = nat_lt 0 (length text) && not (has_leading_zero text) && list_all is_ascii_digit text

-- what decimal digits spell, and nothing for any other text
abbrev pub number_of : List ℕ → Option ℕ
number_of text = if is_number text then Some (digits_value 10 text) else None

abbrev pub at_most : ℕ → Option ℕ → Option ℕ
at_most most None = None
at_most most (Some number) = if nat_le number most then Some number else None

-- the number of an option's word, `most` at most; with no such option the number `missing`
abbrev pub number_or : ℕ → ℕ → Option (List ℕ) → Option ℕ
number_or missing most None = Some missing
number_or missing most (Some word) = at_most most (number_of word)

-- the number of events that a run may have
abbrev pub limit_by : Option (List ℕ) → Option ℕ
limit_by word = number_or 1000 100000 word

-- the seed of a run's choices
abbrev pub seed_by : Option (List ℕ) → Option ℕ
seed_by word = number_or 0 4294967295 word
