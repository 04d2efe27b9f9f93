-- Where controllers are, as the trees at their places, and where the bodies of their definitions are laid.
use Rattle.std.specs.Prelude.{ℕ, ◌≡◌, ◌<◌, List, map, length}
use Rattle.cb_spec.specs.declared.system.Controller.{Controller}
use Rattle.cb_spec.specs.declared.system.System.{System}
use Rattle.cb_spec.specs.declared.state.Branch.{Branch}
use Rattle.cb_spec.specs.declared.state.Control.{Control}
use Rattle.cb_spec.specs.declared.state.Control.TheVariants as control
use Rattle.cb_spec.specs.declared.state.State.{State}
use Rattle.cb_spec.specs.ProcessTree.{ProcessTree}
use Rattle.cb_spec.specs.ProcessTree as tree
use Rattle.cb_spec.specs.Stores.{Writes}
use Rattle.cb_spec.specs.States.{IsAt}
use Rattle.cb_spec.specs.Journals.{IsNumbered}
use Rattle.cb_code.specs.declared.place.Place.{Place}
use Rattle.cb_code.specs.declared.place.Place.TheVariants.{At, Ready, Ended}
use Rattle.cb_code.specs.Nodes.{part}
use Rattle.cb_settling.specs.Branches.{ArePrefixes, no_event}
use Rattle.cb_settling.specs.Resolving.{HasBodies}

-- the branch that a prefix offers where names stand for what the store says
abbrev pub branch_on : ProcessTree → Writes → Branch
branch_on (tree.Prefix e p) env = record { event = e; then = p; env = env }
branch_on p env = record { event = no_event; then = tree.Stop; env = env }

-- where a controller is, with trees in place of places
abbrev pub tree_control : List ProcessTree → Place → Control
tree_control ps (At k env) = control.At (part ps k) env
tree_control ps (Ready ks env) = control.Ready (map (λ k. branch_on (part ps k) env) ks)
tree_control ps Ended = control.Ended

abbrev pub state_in : List ProcessTree → Writes → List Place → State
state_in ps store places = record { store = store; controls = map (tree_control ps) places }

-- the code has each definition's body, the places are within it, and what is offered are prefixes
pub record Laid (y : System) (ps : List ProcessTree) (places : List Place) (bodies : List (List ℕ)) : Type 0 where
  pub body_at : (i : ℕ) (c : Controller) → IsNumbered y i c → (bs : List ℕ) × (IsAt bodies i bs × HasBodies c ps bs)
  pub within : (i k : ℕ) (env : Writes) → IsAt places i (At k env) → k < length ps
  pub offered : (i : ℕ) (ks : List ℕ) (env : Writes) → IsAt places i (Ready ks env) → ArePrefixes ps ks
  pub many : length places ≡ length y.order
