-- What a system begins with.
use Rattle.std.specs.Prelude.{◌≡◌}
use Rattle.cb_spec.specs.declared.system.System.{System}
use Rattle.cb_spec.specs.Stores.{Writes, look_of, SameMap}
use Rattle.cb_spec.specs.States.{state_of}
use Rattle.cb_spec.specs.Journals.{set_sizes, Begun, beginning}
use Rattle.cb_settling.specs.Calling.{IsRoomy}
use Rattle.cb_beginning.specs.declared.begin.Beginning.{Beginning}
use Rattle.cb_beginning.specs.Placed.{state_in, Laid}

-- the initialisations have run, each machine's once, and each controller is at its START call
pub record Begins (y : System) (b : Beginning) : Type 0 where
  pub joined : Writes
  pub begun : Begun (set_sizes y) y.machines joined
  pub initial : SameMap b.initial joined
  pub store : look_of b.store ≡ look_of b.initial
  pub room : IsRoomy y b.store
  pub laid : Laid y b.code b.places.items b.bodies.items
  pub controls : state_of (state_in b.code b.store b.places.items) ≡ beginning y b.initial
