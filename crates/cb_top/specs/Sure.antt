-- Files and sinks that are sure: what then can't fail.
use Rattle.std.specs.Prelude.{◌≡◌, ◌⊎◌, ℕ, ◌-◌, ◌^◌, ◌<◌, ◌≤◌, List, [], length, slice_index_or}
use Rattle.std.specs.declared.option.Option.{Option}
use Rattle.cb_words.specs.declared.request.Request.{Request}
use Rattle.cb_top.specs.Outcome.{Answer, IsOutcomeOf, words_line, memory_line, read_line}

-- each of these files is sure to be read, and its count of faults isn't at its last value
abbrev pub CanBeRead : (List ℕ → Type 0) → (List ℕ → ℕ) → List (List ℕ) → Type 0
CanBeRead sure faults names = (i : ℕ) → i < length names → sure (slice_index_or names i []) × (faults (slice_index_or names i []) < 2 ^ 64 - 1)

-- a sink has sure room for each of these texts, and its count of faults isn't at its last value
pub record CanTake (sure : ℕ → Type 0) (faults : ℕ) (MayCome : List ℕ → Type 0) : Type 0 where
  pub room : ℕ
  pub has_room : sure room
  pub below : faults < 2 ^ 64 - 1
  pub fits : (text : List ℕ) → MayCome text → length text ≤ room

-- the texts that a request may bring on `out`
abbrev pub IsText : Request → List (List ℕ) → (List ℕ → Option (List ℕ)) → List ℕ → Type 0
IsText request names held text = (answer : Answer) × IsOutcomeOf request names held answer × (text ≡ answer.out)

-- the lines that a request may bring on `err`
pub data IsLine (request : Request) (names : List (List ℕ)) (held : List ℕ → Option (List ℕ)) (line : List ℕ) : Type 0 where
  of_outcome : (answer : Answer) → IsOutcomeOf request names held answer → line ≡ answer.err → IsLine request names held line
  of_file : (i : ℕ) → i < length names → line ≡ read_line (slice_index_or names i []) → IsLine request names held line
  of_memory : line ≡ memory_line → IsLine request names held line

-- the lines that come on `err` where no request is spelled
abbrev pub IsWordsLine : List ℕ → Type 0
IsWordsLine line = (line ≡ words_line) ⊎ (line ≡ memory_line)
