-- What a running value stands for.
use Rattle.std.specs.Prelude.{ℕ, ◌≡◌, Option, Some, None, List, [], ◌∷◌, ◌++◌}
use Rattle.cb_term.specs.declared.value.Value.{Value}
use Rattle.cb_spec.specs.declared.system.System.{System}
use Rattle.cb_spec.specs.declared.state.State.{State}
use Rattle.cb_spec.specs.declared.state.End.{End}
use Rattle.cb_spec.specs.declared.state.Entry.{Entry}
use Rattle.cb_spec.specs.declared.state.Entry.TheVariants as entry
use Rattle.cb_spec.specs.Stores.{Writes}
use Rattle.cb_spec.specs.States.{state_of}

-- what contracts see of a running value
pub record RunView : Type 0 where
  pub system : System
  pub limit : ℕ
  pub initial : Writes
  pub journal : List Entry
  pub state : State

-- all is as it was, and in the store names stand for what they did
pub record IsSame (old new : RunView) : Type 0 where
  pub system : new.system ≡ old.system
  pub limit : new.limit ≡ old.limit
  pub initial : new.initial ≡ old.initial
  pub journal : new.journal ≡ old.journal
  pub state : state_of new.state ≡ state_of old.state

-- ---- the journal's end

abbrev pub as_end : Entry → Option End
as_end (entry.Settle i bits) = None
as_end (entry.Op i b k j args results written) = None
as_end (entry.Pass k sent got vs) = None
as_end (entry.End c) = Some c

-- the cause that the last entry is
abbrev pub last_end : List Entry → Option End
last_end [] = None
last_end (e ∷ []) = as_end e
last_end (e ∷ x ∷ xs) = last_end (x ∷ xs)

-- ---- what has come to a journal

-- a Settle of the controller
abbrev pub HasSettle : ℕ → List Entry → List Entry → Type 0
HasSettle i old new = (bits : ℕ) × (new ≡ old ++ entry.Settle i bits ∷ [])

-- an Op of the controller, by its branch b
abbrev pub HasOp : ℕ → ℕ → List Entry → List Entry → Type 0
HasOp i b old new = (k : ℕ) × ((j : ℕ) × ((args : List Value) × ((results : List Value) × ((written : Writes) × (new ≡ old ++ entry.Op i b k j args results written ∷ [])))))

-- a Pass on the channel
abbrev pub HasPass : (k sent got : ℕ) → List Entry → List Entry → Type 0
HasPass k sent got old new = (vs : List Value) × (new ≡ old ++ entry.Pass k sent got vs ∷ [])
