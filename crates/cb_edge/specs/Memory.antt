-- What contracts see of the files in memory: the bytes and the count of faults of each name, and which calls fail.
use Rattle.std.specs.Prelude.{ℕ, ◌≡◌, ◌≢◌, List, [], length, IsSome, Bool, not, is_some, ◌||◌, ◌==◌, ◌-◌, min, String, Vec}
use Rattle.std.specs.List.{list_any}
use Rattle.std.specs.Option.{option_map_or}
use Rattle.std.specs.declared.alloc.Global.{Global}
use Rattle.std.specs.declared.option.Option.{Option}
use Rattle.cb_edge.specs.Edge.{raised}
use Rattle.cb_edge.specs.Places.{held_in, count_in, place_in}
use Rattle.cb_edge.specs.declared.memory.MemFiles.{MemFiles}

abbrev pub entries_of : MemFiles → List (String Global × Vec ℕ Global)
entries_of files = files.entries.items

-- the numbers of the calls that are to fail
abbrev pub failing_of : MemFiles → List ℕ
failing_of files = files.failing.items

-- the calls so far
abbrev pub calls_of : MemFiles → ℕ
calls_of files = files.calls

abbrev pub held_by : MemFiles → List ℕ → Option (List ℕ)
held_by files name = held_in (entries_of files) name

abbrev pub count_by : MemFiles → List ℕ → ℕ
count_by files name = count_in (entries_of files) files.counts.items files.unknown name

-- these entries and failing calls, before any call
pub record IsFresh (files : MemFiles) (given : List (String Global × Vec ℕ Global)) (numbers : List ℕ) : Type 0 where
  pub entries : entries_of files ≡ given
  pub failing : failing_of files ≡ numbers
  pub calls : calls_of files ≡ 0
  pub counts : (name : List ℕ) → count_by files name ≡ 0

-- one call more, with the same entries
pub record NextCall (old new : MemFiles) : Type 0 where
  pub entries : entries_of new ≡ entries_of old
  pub failing : failing_of new ≡ failing_of old
  pub calls : calls_of new ≡ raised (calls_of old)

-- the count of this name's file rose, and no other
pub record CountsFault (old new : MemFiles) (name : List ℕ) : Type 0 where
  pub own : count_by new name ≡ raised (count_by old name)
  pub others : (other : List ℕ) → place_in (entries_of old) other ≢ place_in (entries_of old) name → count_by new other ≡ count_by old other

-- the next read of this name fails: there is no such file, or the number of the call is in the list
abbrev pub fails_next : MemFiles → List ℕ → Bool
fails_next files name = not (is_some (place_in (entries_of files) name)) || list_any (λ k. k == raised (calls_of files)) (failing_of files)

-- a read that doesn't fail fills the buffer or comes to the end
abbrev pub takes_next : MemFiles → List ℕ → ℕ → ℕ → ℕ
takes_next files name at room = option_map_or (λ bs. min (length bs - at) room) (held_by files name) 0

-- the file is there and no call is to fail
abbrev pub IsSure : MemFiles → List ℕ → Type 0
IsSure files name = (failing_of files ≡ []) × IsSome (place_in (entries_of files) name)
