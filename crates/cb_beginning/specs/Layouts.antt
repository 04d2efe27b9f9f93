-- Processes of controllers that are laid flat.
use Rattle.std.specs.Prelude.{ℕ, ◌≡◌, ◌<◌, List, [], ◌∷◌, ◌++◌, length}
use Rattle.cb_spec.specs.declared.system.Controller.{Controller}
use Rattle.cb_spec.specs.declared.system.System.{System}
use Rattle.cb_spec.specs.ProcessTree.{ProcessTree, Call}
use Rattle.cb_spec.specs.States.{IsAt}
use Rattle.cb_spec.specs.Journals.{IsNumbered}
use Rattle.cb_code.specs.declared.place.Place.TheVariants.{At}
use Rattle.cb_code.specs.Nodes.{Extends}
use Rattle.cb_settling.specs.Resolving.{HasBodies}
use Rattle.cb_beginning.specs.declared.layout.Layout.{Layout}

-- at the place is the controller's START call
abbrev pub IsStart : Controller → List ProcessTree → ℕ → Type 0
IsStart c ps k = IsAt ps k (Call c.start c.start_args)

-- the controller is laid down after the others
pub record AddsController (c : Controller) (old new : Layout) : Type 0 where
  pub start : ℕ
  pub own : List ℕ
  pub more : Extends old.code new.code
  pub places : new.places.items ≡ old.places.items ++ At start [] ∷ []
  pub bodies : new.bodies.items ≡ old.bodies.items ++ own ∷ []
  pub starts : IsStart c new.code start
  pub laid : HasBodies c new.code own

-- the controllers with numbers below n are laid down, and are at their START calls
pub record IsLaidTo (y : System) (n : ℕ) (l : Layout) : Type 0 where
  pub many_places : length l.places.items ≡ n
  pub many_bodies : length l.bodies.items ≡ n
  pub starts : (i : ℕ) (c : Controller) → i < n → IsNumbered y i c → (k : ℕ) × (IsAt l.places.items i (At k []) × IsStart c l.code k)
  pub laid : (i : ℕ) (c : Controller) → i < n → IsNumbered y i c → (ks : List ℕ) × (IsAt l.bodies.items i ks × HasBodies c l.code ks)
