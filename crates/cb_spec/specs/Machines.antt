-- What is promised of one machine, whatever is called. `sizes` has the number of elements of each enumerated set.
use Rattle.std.specs.Prelude.{ℕ, ◌≡◌, List, [], ◌∷◌, Contains, ⊤}
use Rattle.cb_term.specs.declared.value.Value.{Value}
use Rattle.cb_term.specs.Values.{Look}
use Rattle.cb_term.specs.Holds.{Holds}
use Rattle.cb_spec.specs.declared.system.Machine.{Machine}
use Rattle.cb_spec.specs.declared.system.Operation.{Operation}
use Rattle.cb_spec.specs.Stores.{Writes, over, empty}
use Rattle.cb_spec.specs.Bound.{names, bind, only, AreOfKinds}
use Rattle.cb_spec.specs.Runs.{Runs}

-- what names stand for in an operation: its parameters have the values of the arguments
abbrev pub with_args : Operation → List Value → Look → Look
with_args o args look = over (bind (names o.params) args) look

-- what is left of a map of writes in the machine's variables
abbrev pub kept : Machine → Writes → Look → Look
kept m d look = over (only (names m.variables) d) look

-- the start of the machine: its initialisation runs where no name has a value
abbrev pub Starts : List ℕ → Machine → Look → Type 0
Starts sizes m look = (d : Writes) × (Runs sizes m.init empty d × (look ≡ kept m d empty))

-- one call: its operation, the values of its parameters, and what it writes
pub record MachineCall : Type 0 where
  pub operation : Operation
  pub args : List Value
  pub writes : Writes

-- the call is one of the machine's operations, with arguments of its parameters' kinds, and it is made where the precondition
-- holds. Kinds are asked for, since a set of values does not tell of which sort they are: TRUE is among the numbers 0..9
pub record MayCall (sizes : List ℕ) (m : Machine) (look : Look) (c : MachineCall) : Type 0 where
  pub listed : Contains m.operations c.operation
  pub kinds : AreOfKinds sizes c.operation.params c.args
  pub precondition : Holds sizes (with_args c.operation c.args look) c.operation.pre []
  pub runs : Runs sizes c.operation.body (with_args c.operation c.args look) c.writes

-- each call may be made where the earlier ones have led
abbrev pub MayCallAll : List ℕ → Machine → Look → List MachineCall → Type 0
MayCallAll sizes m look [] = ⊤
MayCallAll sizes m look (c ∷ cs) = MayCall sizes m look c × MayCallAll sizes m (kept m c.writes look) cs

-- where the calls lead
abbrev pub after_calls : Machine → Look → List MachineCall → Look
after_calls m look [] = look
after_calls m look (c ∷ cs) = after_calls m (kept m c.writes look) cs

-- however the machine starts and whatever is called, its invariant holds at the start and after each call
abbrev pub CallSafe : List ℕ → Machine → Type 0
CallSafe sizes m = (look : Look) → Starts sizes m look → (cs : List MachineCall) → MayCallAll sizes m look cs →
    Holds sizes (after_calls m look cs) m.invariant []
