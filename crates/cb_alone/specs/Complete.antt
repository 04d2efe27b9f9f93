-- Runs that have come to their end.
use Rattle.std.specs.Prelude.{ℕ, ◌≡◌}
use Rattle.cb_spec.specs.declared.system.System.{System}
use Rattle.cb_spec.specs.States.{state_of}
use Rattle.cb_spec.specs.Journals.{Run, IsComplete}
use Rattle.cb_system.specs.Views.{RunView}

-- the running value has run the system with this limit, and its journal ends by a cause that was due
pub record IsCompleteRun (y : System) (limit : ℕ) (v : RunView) : Type 0 where
  pub system : v.system ≡ y
  pub limit_is : v.limit ≡ limit
  pub run : Run y limit v.initial v.journal (state_of v.state)
  pub complete : IsComplete v.journal
