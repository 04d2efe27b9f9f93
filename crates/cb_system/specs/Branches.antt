-- The branches that controllers offer, told by the places of their prefixes.
use Rattle.std.specs.Prelude.{ℕ, ◌≡◌, ◌<◌, ⊤, List, length}
use Rattle.cb_spec.specs.declared.event.Event.{Event}
use Rattle.cb_spec.specs.ProcessTree.{ProcessTree, Prefix}
use Rattle.cb_spec.specs.Stores.{Writes}
use Rattle.cb_spec.specs.States.{IsAt}
use Rattle.cb_code.specs.declared.place.Place.{Place}
use Rattle.cb_code.specs.declared.place.Place.TheVariants.{At, Ready, Ended}
use Rattle.cb_code.specs.Nodes.{part}
use Rattle.cb_settling.specs.Branches.{ArePrefixes}

-- the controller offers branches
abbrev pub IsReady : Place → Type 0
IsReady (At k env) = ⊥
IsReady (Ready ks env) = ⊤
IsReady Ended = ⊥

-- what is offered are prefixes
abbrev pub AreOffered : List ProcessTree → List Place → Type 0
AreOffered ps places = (i : ℕ) (ks : List ℕ) (env : Writes) → IsAt places i (Ready ks env) → ArePrefixes ps ks

-- the controller offers a branch with the number b
pub record HasBranch (places : List Place) (i b : ℕ) : Type 0 where
  pub prefixes : List ℕ
  pub env : Writes
  pub prefix : ℕ
  pub at : IsAt places i (Ready prefixes env)
  pub listed : IsAt prefixes b prefix

-- the controller's branch with the number b is this event, this process follows, and names stand for these values
pub record IsShown (ps : List ProcessTree) (places : List Place) (i b : ℕ) (e : Event) (q : ProcessTree) (env : Writes) : Type 0 where
  pub prefixes : List ℕ
  pub at : IsAt places i (Ready prefixes env)
  pub prefix : ℕ
  pub listed : IsAt prefixes b prefix
  pub is : part ps prefix ≡ Prefix e q

-- and what follows is at this place
pub record IsBranch (ps : List ProcessTree) (places : List Place) (i b : ℕ) (e : Event) (next : ℕ) (env : Writes) : Type 0 where
  pub shown : IsShown ps places i b e (part ps next) env
  pub within : next < length ps
