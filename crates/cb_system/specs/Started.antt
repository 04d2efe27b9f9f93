-- A run that begins.
use Rattle.std.specs.Prelude.{ℕ, ◌≡◌, []}
use Rattle.cb_spec.specs.declared.system.System.{System}
use Rattle.cb_spec.specs.Stores.{Writes, SameMap}
use Rattle.cb_spec.specs.States.{state_of}
use Rattle.cb_spec.specs.Journals.{set_sizes, Begun, beginning}
use Rattle.cb_system.specs.Views.{RunView}

-- nothing has happened yet: each machine's initialisation has run once, and each controller is at its START call
pub record IsStarted (y : System) (limit : ℕ) (v : RunView) : Type 0 where
  pub system : v.system ≡ y
  pub limit_is : v.limit ≡ limit
  pub joined : Writes
  pub begun : Begun (set_sizes y) y.machines joined
  pub initial : SameMap v.initial joined
  pub journal : v.journal ≡ []
  pub state : state_of v.state ≡ beginning y v.initial
