-- What the next entry of a good run can build on.
use Rattle.std.specs.Prelude.{ℕ, ◌<◌, ◌^◌, Bool, List, [], ◌∷◌, ◌++◌}
use Rattle.cb_term.specs.declared.name.Name.{Name}
use Rattle.cb_term.specs.declared.value.Value.{Value}
use Rattle.cb_term.specs.Tree.{TermTree}
use Rattle.cb_term.specs.Values.{Look}
use Rattle.cb_term.specs.Holds.{Holds}
use Rattle.cb_spec.specs.declared.event.Event.TheVariants as event
use Rattle.cb_spec.specs.declared.system.Controller.{Controller}
use Rattle.cb_spec.specs.declared.system.Machine.{Machine}
use Rattle.cb_spec.specs.declared.system.Operation.{Operation}
use Rattle.cb_spec.specs.declared.system.System.{System}
use Rattle.cb_spec.specs.declared.state.Entry.{Entry}
use Rattle.cb_spec.specs.ProcessTree.{ProcessTree, Prefix}
use Rattle.cb_spec.specs.Stores.{Writes, SameMap}
use Rattle.cb_spec.specs.Bound.{AreOfKinds}
use Rattle.cb_spec.specs.Runs.{Runs, Live}
use Rattle.cb_spec.specs.Machines.{with_args}
use Rattle.cb_spec.specs.States.{IsAt, BranchView, ControlView, AtProcess, Offering, StateView}
use Rattle.cb_spec.specs.Settling.{AreValues, Settles}
use Rattle.cb_spec.specs.Journals.{set_sizes, IsNumbered, Settling, Begun, beginning, Step}
use Rattle.cb_spec.specs.TypedProcesses.{scope_in}
use Rattle.cb_spec.specs.Typed.{AreFew, Typed}
use Rattle.cb_spec.specs.Sound.{Agrees, Sound, IsTyped, IsSound, FineProcess, FineControl, FitState, Good}

-- each control is of a controller, and fine
abbrev pub PlacedIsFine : Type 0
PlacedIsFine = (y : System) → Typed y → Sound y → (s : StateView) → FitState y s → (i : ℕ) (k : ControlView) → IsAt s.controls i k →
    (c : Controller) × IsNumbered y i c × FineControl y i c k s.store

-- and so is each branch that is offered
abbrev pub OfferedIsFine : Type 0
OfferedIsFine = (y : System) → Typed y → Sound y → (s : StateView) → FitState y s → (i b : ℕ) (branches : List BranchView) (branch : BranchView) →
    IsAt s.controls i (Offering branches) → IsAt branches b branch →
    (c : Controller) × IsNumbered y i c × FineProcess y i c (Prefix branch.event branch.next) branch.env s.store

-- the operation may be called with the arguments: its body is typed for what names stand for then, and it is live
pub record Ready (y : System) (s : StateView) (m : Machine) (o : Operation) (args : List Value) : Type 0 where
  pub kinds : AreOfKinds (set_sizes y) o.params args
  pub precondition : Holds (set_sizes y) (with_args o args s.store) o.pre []
  pub agrees : Agrees (set_sizes y) (scope_in m o) (with_args o args s.store)
  pub live : Live (set_sizes y) o.body (with_args o args s.store)

-- so it is with each call that is offered
abbrev pub OfferedIsReady : Type 0
OfferedIsReady = (y : System) → Typed y → Sound y → (s : StateView) → FitState y s →
    (i b k j : ℕ) (branches : List BranchView) (terms : List TermTree) (targets : List Name) (next : ProcessTree) (env : Look) →
    IsAt s.controls i (Offering branches) → IsAt branches b (record { event = event.Call k j terms targets; next = next; env = env }) →
    (m : Machine) (o : Operation) → IsAt y.machines k m → IsAt m.operations j o → (args : List Value) → AreValues (set_sizes y) env terms args → Ready y s m o args

-- and its body cannot be without a run
abbrev pub OfferedCallsRun : Type 0
OfferedCallsRun = (y : System) → Typed y → Sound y → (s : StateView) → FitState y s →
    (i b k j : ℕ) (branches : List BranchView) (terms : List TermTree) (targets : List Name) (next : ProcessTree) (env : Look) →
    IsAt s.controls i (Offering branches) → IsAt branches b (record { event = event.Call k j terms targets; next = next; env = env }) →
    (m : Machine) (o : Operation) → IsAt y.machines k m → IsAt m.operations j o → (args : List Value) → AreValues (set_sizes y) env terms args →
    ¬ ((d : Writes) → ¬ Runs (set_sizes y) o.body (with_args o args s.store) d)

-- a resolving takes so few sides that a number of 64 bits tells them
abbrev pub BitsFit : Type 0
BitsFit = (y : System) → Typed y → Sound y → (s : StateView) → FitState y s → (i bits : ℕ) (t : StateView) → Settling y s i bits t → bits < 2 ^ 64

-- and it offers so few branches that a number of 32 bits tells each
abbrev pub BranchesAreFew : Type 0
BranchesAreFew = (y : System) → Typed y → (s : StateView) → FitState y s → (i : ℕ) (c : Controller) → IsNumbered y i c →
    (p : ProcessTree) (env : Look) → IsAt s.controls i (AtProcess p env) → (depth : ℕ) (sides : List Bool) (bs : List BranchView) → Settles (set_sizes y) c.definitions depth p env sides (Offering bs) → AreFew bs

-- and no process at which a controller is can fail to be resolved
abbrev pub ControlsResolve : Type 0
ControlsResolve = (y : System) → Typed y → Sound y → (s : StateView) → FitState y s → (i : ℕ) (p : ProcessTree) (env : Look) → IsAt s.controls i (AtProcess p env) →
    ¬ ((bits : ℕ) (t : StateView) → ¬ Settling y s i bits t)

-- ---- without a word on the reasons: so a type may keep it

abbrev pub IsGood : System → (limit : ℕ) → Writes → List Entry → StateView → Type 0
IsGood y limit s0 es s = ∥ Good y limit s0 es s ∥₁

abbrev pub IsGoodAtFirst : Type 0
IsGoodAtFirst = (y : System) → IsTyped y → IsSound y → (limit : ℕ) (s0 d : Writes) → Begun (set_sizes y) y.machines d → SameMap s0 d → IsGood y limit s0 [] (beginning y s0)

abbrev pub StaysGood : Type 0
StaysGood = (y : System) (limit : ℕ) (s0 : Writes) (es : List Entry) (s : StateView) (e : Entry) (t : StateView) →
    IsGood y limit s0 es s → Step y limit es s e t → IsGood y limit s0 (es ++ e ∷ []) t
