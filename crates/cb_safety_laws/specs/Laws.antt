-- What is true of every run of a sound system.
use Rattle.std.specs.Prelude.{ℕ, ◌≡◌, true, List, [], ◌∷◌, ◌++◌, Contains}
use Rattle.cb_term.specs.declared.name.Name.{Name}
use Rattle.cb_term.specs.declared.value.Value.{Value}
use Rattle.cb_spec.specs.declared.system.Controller.{Controller}
use Rattle.cb_spec.specs.declared.system.Machine.{Machine}
use Rattle.cb_spec.specs.declared.system.System.{System}
use Rattle.cb_spec.specs.declared.state.Entry.{Entry}
use Rattle.cb_spec.specs.Stores.{Writes, SameMap}
use Rattle.cb_spec.specs.Bound.{names, is_among}
use Rattle.cb_spec.specs.States.{IsAt, StateView}
use Rattle.cb_spec.specs.Journals.{set_sizes, IsNumbered, Settling, Operating, Passing, Begun, beginning, Step, Goes, Run, IsRun}
use Rattle.cb_spec.specs.Safe.{Invariants, Right, Safe}
use Rattle.cb_spec.specs.Typed.{Typed}
use Rattle.cb_spec.specs.Sound.{Sound, FitState, Good}

-- a sound system is safe, whatever its controllers do and in whatever order
abbrev pub SoundIsSafe : Type 0
SoundIsSafe = (y : System) → Typed y → Sound y → Safe y

-- what holds of each state of a run holds at the beginning
abbrev pub FitBegins : Type 0
FitBegins = (y : System) → Typed y → Sound y → (s0 d : Writes) → Begun (set_sizes y) y.machines d → SameMap s0 d → FitState y (beginning y s0)

-- and each entry keeps it
abbrev pub FitIsKept : Type 0
FitIsKept = (y : System) → Typed y → Sound y → (limit : ℕ) (past : List Entry) (s : StateView) (e : Entry) (t : StateView) →
    Step y limit past s e t → FitState y s → FitState y t

-- a run begins well, with an empty journal
abbrev pub GoodBegins : Type 0
GoodBegins = (y : System) → Typed y → Sound y → (limit : ℕ) (s0 d : Writes) → Begun (set_sizes y) y.machines d → SameMap s0 d →
    Good y limit s0 [] (beginning y s0)

-- and goes on well by each entry
abbrev pub GoodIsKept : Type 0
GoodIsKept = (y : System) (limit : ℕ) (s0 : Writes) (es : List Entry) (s : StateView) (e : Entry) (t : StateView) →
    Good y limit s0 es s → Step y limit es s e t → Good y limit s0 (es ++ e ∷ []) t

-- wherever a run leads, it leads well
abbrev pub RunsAreGood : Type 0
RunsAreGood = (y : System) → Typed y → Sound y → (limit : ℕ) (s0 : Writes) (es : List Entry) (s : StateView) → Run y limit s0 es s → Good y limit s0 es s

-- in each journal that is a run of a sound system, each entry is right in the state where it stands
abbrev pub EachEntryIsRight : Type 0
EachEntryIsRight = (y : System) → Typed y → Sound y → (limit : ℕ) (s0 : Writes) (es : List Entry) (e : Entry) (rest : List Entry) (last : StateView) →
    Run y limit s0 (es ++ e ∷ rest) last → (s : StateView) × (t : StateView) × Run y limit s0 es s × Step y limit es s e t × Right y s e t

-- a run and one lawful entry more are a run
abbrev pub RunsGrow : Type 0
RunsGrow = (y : System) (limit : ℕ) (s0 : Writes) (es : List Entry) (s : StateView) (e : Entry) (t : StateView) →
    Run y limit s0 es s → Step y limit es s e t → Run y limit s0 (es ++ e ∷ []) t

-- a run may be cut anywhere: its first part is a run, and the rest goes on from there
abbrev pub RunsAreCut : Type 0
RunsAreCut = (y : System) (limit : ℕ) (s0 : Writes) (es rest : List Entry) (last : StateView) → Run y limit s0 (es ++ rest) last →
    (s : StateView) × Run y limit s0 es s × Goes y limit es s rest last

-- a variable of one of the controller's machines
abbrev pub IsOwn : System → Controller → Name → Type 0
IsOwn y c x = (k : ℕ) × (m : Machine) × Contains c.machines k × IsAt y.machines k m × (is_among x (names m.variables) ≡ true)

-- a call changes the variables of its controller's machines alone, and no other entry changes a variable
pub record EntriesKeepOthers : Type 0 where
  pub calls : (y : System) → Typed y → Sound y → (s : StateView) → FitState y s →
      (i b k j : ℕ) (args results : List Value) (written : Writes) (t : StateView) → Operating y s i b k j args results written t →
      (c : Controller) × IsNumbered y i c × ((x : Name) → ¬ IsOwn y c x → t.store x ≡ s.store x)
  pub settles : (y : System) (s : StateView) (i bits : ℕ) (t : StateView) → Settling y s i bits t → t.store ≡ s.store
  pub passes : (y : System) (s : StateView) (k sent got : ℕ) (vs : List Value) (t : StateView) → Passing y s k sent got vs t → t.store ≡ s.store

-- of a safe system: a run that is merely known to be there shows the invariants
abbrev pub MereRunIsSafe : Type 0
MereRunIsSafe = (y : System) → Safe y → (limit : ℕ) (s0 : Writes) (es : List Entry) (s : StateView) → IsRun y limit s0 es s → Invariants y s.store
