-- What files and sinks do: the bytes that they tell, and the counts of their faults.
use Rattle.std.specs.Prelude.{◌≡◌, ◌↔◌, ℕ, ◌+◌, ◌-◌, ◌^◌, ◌≤◌, ◌<◌, min, List, length, take, drop, IfSome, IfOk, OnOk, OnErr}
use Rattle.std.specs.Io.KnownBytes.{Appends}
use Rattle.std.specs.declared.option.Option.{Option}
use Rattle.std.specs.declared.result.Result.{Result}

-- a count with one fault more: it stays at its last value
abbrev pub raised : ℕ → ℕ
raised count = min (count + 1) (2 ^ 64 - 1)

-- a count rose in a call, or stands at its last value
abbrev pub Rose : ℕ → ℕ → Type 0
Rose before now = raised before ≤ now

-- the count of an object's faults over a call: it doesn't fall, and an error comes only where it rose
pub record HasCause {T E : Type 0} (before now : ℕ) (result : Result T E) : Type 0 where
  pub later : before ≤ now
  pub failed : OnErr result (Rose before now)

-- an error raises the count by one, and nothing else changes it
pub record CountsErrors {T E : Type 0} (before now : ℕ) (result : Result T E) : Type 0 where
  pub ok : OnOk result (now ≡ before)
  pub err : OnErr result (now ≡ raised before)

-- n bytes of bs from `at` on stand at the front of buf: none exactly at or past the end of bs
pub record ReadsFrom (bs : List ℕ) (at n : ℕ) (buf : List ℕ) : Type 0 where
  pub within : n ≤ length bs - at
  pub bytes : take n buf ≡ take n (drop at bs)
  pub ends : (n ≡ 0) ↔ (length bs ≤ at)

-- what a read of told bytes answers
abbrev pub ReadsHeld : {E : Type 0} → Option (List ℕ) → ℕ → Result ℕ E → List ℕ → Type 0
ReadsHeld held at result buf = IfSome held (λ bs. IfOk result (λ n. ReadsFrom bs at n buf))

-- the count of each name doesn't fall
abbrev pub NoneFalls : (List ℕ → ℕ) → (List ℕ → ℕ) → Type 0
NoneFalls before now = (name : List ℕ) → before name ≤ now name

-- told bytes grow by a front part of bs, and not by all of it
pub record CutShort (old new : Option (List ℕ)) (bs : List ℕ) : Type 0 where
  pub count : ℕ
  pub less : count < length bs
  pub front : Appends old new (take count bs)

-- a name that is sure stays so, and its count stays
abbrev pub StaysSure : (List ℕ → Type 0) → (List ℕ → Type 0) → (List ℕ → ℕ) → (List ℕ → ℕ) → Type 0
StaysSure sure_before sure_now before now = (name : List ℕ) → sure_before name → sure_now name × (now name ≡ before name)

-- where room for n bytes is sure, a shorter piece counts no fault and leaves room for the rest
abbrev pub KeepsRoom : {E : Type 0} → (ℕ → Type 0) → (ℕ → Type 0) → ℕ → ℕ → ℕ → Result ℕ E → Type 0
KeepsRoom sure_before sure_now before now piece result =
    (n : ℕ) → piece ≤ n → sure_before n → (now ≡ before) × IfOk result (λ k. sure_now (n - k))
