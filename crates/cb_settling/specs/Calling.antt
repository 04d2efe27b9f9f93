-- Calls of operations.
use Rattle.std.specs.Prelude.{ℕ, ◌≡◌, List, [], length}
use Rattle.cb_term.specs.declared.value.Value.{Value}
use Rattle.cb_term.specs.Values.{Look}
use Rattle.cb_term.specs.Holds.{Holds}
use Rattle.cb_spec.specs.declared.system.Machine.{Machine}
use Rattle.cb_spec.specs.declared.system.Operation.{Operation}
use Rattle.cb_spec.specs.declared.system.System.{System}
use Rattle.cb_spec.specs.Stores.{Writes, SameMap}
use Rattle.cb_spec.specs.Bound.{names, only, AreOfKinds}
use Rattle.cb_spec.specs.Runs.{Runs}
use Rattle.cb_spec.specs.Machines.{with_args}
use Rattle.cb_spec.specs.States.{IsAt}
use Rattle.cb_spec.specs.Journals.{set_sizes, results_after}
use Rattle.cb_relation.specs.Performing.{CanRun}
use Rattle.cb_settling.specs.Ops.{AllThere, HasRoom}
use Rattle.cb_settling.specs.declared.call.Called.{Called}

-- the results are those of a run of the operation with these arguments, and of what that run writes the variables' part is kept
abbrev pub IsCalled : List ℕ → Machine → Operation → List Value → Look → Called → Type 0
IsCalled sizes m o args look c =
    (d : Writes) × (Runs sizes o.body (with_args o args look) d × (c.results ≡ results_after o d) × SameMap c.written (only (names m.variables) d))

-- the machine and the operation that a call names, with all that performing it asks
pub record CanCall (y : System) (k j : ℕ) (args : List Value) (store : Look) : Type 0 where
  pub machine : Machine
  pub its : IsAt y.machines k machine
  pub operation : Operation
  pub listed : IsAt machine.operations j operation
  pub as_many : length operation.params ≡ length args
  pub kinds : AreOfKinds (set_sizes y) operation.params args
  pub precondition : Holds (set_sizes y) (with_args operation args store) operation.pre []
  pub can : CanRun (set_sizes y) (with_args operation args store) operation.body

-- the store has each machine's variables, and parameters have places in it, at rest: what calls ask of it
pub record IsRoomy (y : System) (d : Writes) : Type 0 where
  pub variables : (k : ℕ) (m : Machine) → IsAt y.machines k m → AllThere (names m.variables) d
  pub params : (k j : ℕ) (m : Machine) (o : Operation) → IsAt y.machines k m → IsAt m.operations j o → HasRoom (names o.params) d
