-- What contracts see of the sink in memory: its bytes, the room that is left, the count of its faults, and which calls fail.
use Rattle.std.specs.Prelude.{ℕ, ◌≡◌, ◌≤◌, List, [], Bool, ◌||◌, ◌==◌, ◌+◌, min, OnErr, IfOk}
use Rattle.std.specs.List.{list_any}
use Rattle.std.specs.declared.result.Result.{Result}
use Rattle.cb_edge.specs.Edge.{raised}
use Rattle.cb_edge.specs.declared.memory.MemSink.{MemSink}

abbrev pub bytes_of : MemSink → List ℕ
bytes_of sink = sink.bytes.items

-- the reserved room that is left
abbrev pub room_of : MemSink → ℕ
room_of sink = sink.room

-- the most that one write takes
abbrev pub most_of : MemSink → ℕ
most_of sink = sink.most

-- the numbers of the calls that are to fail
abbrev pub failing_of : MemSink → List ℕ
failing_of sink = sink.failing.items

-- the calls so far
abbrev pub calls_of : MemSink → ℕ
calls_of sink = sink.calls

abbrev pub faults_of : MemSink → ℕ
faults_of sink = sink.faults

-- nothing written, no room, no call yet
pub record IsFresh (sink : MemSink) (bound : ℕ) (numbers : List ℕ) : Type 0 where
  pub bytes : bytes_of sink ≡ []
  pub room : room_of sink ≡ 0
  pub most : most_of sink ≡ bound
  pub failing : failing_of sink ≡ numbers
  pub calls : calls_of sink ≡ 0
  pub faults : faults_of sink ≡ 0

-- all but the room stays
pub record SameButRoom (old new : MemSink) : Type 0 where
  pub bytes : bytes_of new ≡ bytes_of old
  pub most : most_of new ≡ most_of old
  pub failing : failing_of new ≡ failing_of old
  pub calls : calls_of new ≡ calls_of old
  pub faults : faults_of new ≡ faults_of old

-- one call more, and what it took is room no more
pub record NextCall {E : Type 0} (old new : MemSink) (result : Result ℕ E) : Type 0 where
  pub most : most_of new ≡ most_of old
  pub failing : failing_of new ≡ failing_of old
  pub calls : calls_of new ≡ raised (calls_of old)
  pub taken : IfOk result (λ n. room_of new + n ≡ room_of old)
  pub kept : OnErr result (room_of new ≡ room_of old)

-- the bytes that the next write of n bytes takes, if it doesn't fail
abbrev pub takes_next : MemSink → ℕ → ℕ
takes_next sink n = min (min (most_of sink) n) (room_of sink)

-- the next write fails: there is no room, or the number of the call is in the list
abbrev pub fails_next : MemSink → Bool
fails_next sink = (room_of sink == 0) || list_any (λ k. k == raised (calls_of sink)) (failing_of sink)

-- there is room for n bytes and no call is to fail
abbrev pub TakesSurely : MemSink → ℕ → Type 0
TakesSurely sink n = (failing_of sink ≡ []) × (n ≤ room_of sink)
