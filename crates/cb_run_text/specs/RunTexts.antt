-- What may be printed of a system that runs.
use Rattle.std.specs.Prelude.{ℕ, ◌≡◌, List}
use Rattle.cb_spec.specs.declared.state.Entry.{Entry}
use Rattle.cb_spec.specs.declared.system.System.{System}
use Rattle.cb_spec.specs.Stores.{Writes}
use Rattle.cb_spec.specs.States.{StateView}
use Rattle.cb_spec.specs.Journals.{Run, IsComplete}
use Rattle.cb_run_text.specs.Traces.{trace_text}

-- the trace of one of its runs, with at most so many events, that has ended by a cause that was due
pub record IsRunText (y : System) (limit : ℕ) (text : List ℕ) : Type 0 where
  pub initial : Writes
  pub journal : List Entry
  pub state : StateView
  pub run : Run y limit initial journal state
  pub complete : IsComplete journal
  pub text_is : text ≡ trace_text y initial journal
