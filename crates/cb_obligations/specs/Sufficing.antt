-- What is asked of a machine so that valid obligations make it sound, and what they give.
use Rattle.std.specs.Prelude.{ℕ, ◌≡◌, true, false, List, [], ◌∷◌, IsSome, ⊤}
use Rattle.cb_term.specs.declared.name.Name.{Name}
use Rattle.cb_term.specs.declared.value.Value.{Value}
use Rattle.cb_term.specs.Values.{Look}
use Rattle.cb_spec.specs.declared.system.Machine.{Machine}
use Rattle.cb_spec.specs.declared.system.Operation.{Operation}
use Rattle.cb_spec.specs.declared.system.System.{System}
use Rattle.cb_spec.specs.Stores.{Writes, found, empty}
use Rattle.cb_spec.specs.Bound.{names, is_among, AreOfKinds, GivesKinds}
use Rattle.cb_spec.specs.Runs.{Runs, reads, Fits}
use Rattle.cb_spec.specs.Journals.{set_sizes}
use Rattle.cb_spec.specs.Machines.{with_args, kept, CallSafe}
use Rattle.cb_spec.specs.States.{IsAt}
use Rattle.cb_spec.specs.Sound.{SoundMachine}
use Rattle.cb_obligations.specs.Written.{EachName, IsPlain, AsWritten}
use Rattle.cb_obligations.specs.Laws.{NamesUpTo}
use Rattle.cb_obligations.specs.Owed.{with_kinds, machine_owes, AllOwedValid}

-- no name stands twice
abbrev pub Differ : List Name → Type 0
Differ [] = ⊤
Differ (x ∷ xs) = (is_among x xs ≡ false) × Differ xs

abbrev pub IsVariable : Machine → Name → Type 0
IsVariable m x = is_among x (names m.variables) ≡ true

pub record OperationFits (sizes : List ℕ) (m : Machine) (o : Operation) : Type 0 where
  pub pre_plain : IsPlain o.pre
  pub body_written : AsWritten o.body
  pub body_fits : Fits sizes o.body
  pub params_differ : Differ (names o.params)
  -- no parameter is a variable
  pub apart : (x : Name) → IsVariable m x → is_among x (names o.params) ≡ false

pub record MachineFits (sizes : List ℕ) (m : Machine) : Type 0 where
  pub variables_written : NamesUpTo 0 (with_kinds m.variables)
  pub invariant_plain : IsPlain m.invariant
  -- the invariant reads variables alone
  pub invariant_names : EachName (IsVariable m) m.invariant
  pub init_written : AsWritten m.init
  pub init_fits : Fits sizes m.init
  -- the initialisation reads no name, and each run of it writes each variable
  pub init_reads : (x : Name) → reads x m.init ≡ true → ⊥
  pub init_writes : (d : Writes) → Runs sizes m.init empty d → (x : Name) → IsVariable m x → IsSome (found d x)
  pub operations : (j : ℕ) (o : Operation) → IsAt m.operations j o → OperationFits sizes m o
  -- there are values of the variables' kinds
  pub some_values : (look : Look) × GivesKinds sizes m.variables look

-- what is written to a variable is of the variable's kind
pub record KeepsKinds (sizes : List ℕ) (m : Machine) : Type 0 where
  pub begins : (d : Writes) → Runs sizes m.init empty d → GivesKinds sizes m.variables (kept m d empty)
  pub stays : (j : ℕ) (o : Operation) → IsAt m.operations j o → (look : Look) (vs : List Value) (d : Writes) → GivesKinds sizes m.variables look →
      AreOfKinds sizes o.params vs → Runs sizes o.body (with_args o vs look) d → GivesKinds sizes m.variables (kept m d look)

-- valid obligations say what a sound machine needs
abbrev pub ObligationsSuffice : Type 0
ObligationsSuffice = (y : System) (m : Machine) → MachineFits (set_sizes y) m → AllOwedValid (set_sizes y) (machine_owes m) → SoundMachine y m

-- and a sound machine keeps its invariant, whatever is called
abbrev pub SoundIsCallSafe : Type 0
SoundIsCallSafe = (y : System) (m : Machine) → KeepsKinds (set_sizes y) m → SoundMachine y m → CallSafe (set_sizes y) m
