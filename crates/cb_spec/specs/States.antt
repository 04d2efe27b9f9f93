-- States as definitions see them, with what names stand for in place of stores.
use Rattle.std.specs.Prelude.{ℕ, ◌≡◌, Some, List, map, slice_get}
use Rattle.cb_term.specs.Values.{Look}
use Rattle.cb_spec.specs.declared.event.Event.{Event}
use Rattle.cb_spec.specs.declared.state.Branch.{Branch}
use Rattle.cb_spec.specs.declared.state.Control.{Control}
use Rattle.cb_spec.specs.declared.state.Control.TheVariants as control
use Rattle.cb_spec.specs.declared.state.State.{State}
use Rattle.cb_spec.specs.ProcessTree.{ProcessTree}
use Rattle.cb_spec.specs.Stores.{look_of}

-- the k-th of the list is x
abbrev pub IsAt : {A : Type 0} → List A → ℕ → A → Type 0
IsAt xs k x = slice_get xs k ≡ Some x

-- what is offered, what follows it, and what names stand for there
pub record BranchView : Type 0 where
  pub event : Event
  pub next : ProcessTree
  pub env : Look

pub data ControlView : Type 0 where
  AtProcess : ProcessTree → Look → ControlView
  Offering : List BranchView → ControlView
  Done : ControlView

-- `controls` has where each controller is, by their numbers
pub record StateView : Type 0 where
  pub store : Look
  pub controls : List ControlView

abbrev pub branch_of : Branch → BranchView
branch_of b = record { event = b.event; next = b.then; env = look_of b.env }

abbrev pub control_of : Control → ControlView
control_of (control.At p env) = AtProcess p (look_of env)
control_of (control.Ready bs) = Offering (map branch_of bs)
control_of control.Ended = Done

abbrev pub state_of : State → StateView
state_of s = record { store = look_of s.store; controls = map control_of s.controls }
