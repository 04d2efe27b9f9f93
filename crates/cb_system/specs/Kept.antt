-- What the fields of a running value keep.
use Rattle.std.specs.Prelude.{ℕ, ◌≡◌, ◌<◌, ◌≤◌, Option, None, List}
use Rattle.std.specs.List.{sum_by}
use Rattle.cb_spec.specs.declared.system.System.{System}
use Rattle.cb_spec.specs.declared.state.State.{State}
use Rattle.cb_spec.specs.declared.state.End.{End}
use Rattle.cb_spec.specs.declared.state.Entry.{Entry}
use Rattle.cb_spec.specs.Stores.{Writes}
use Rattle.cb_spec.specs.States.{state_of}
use Rattle.cb_spec.specs.Journals.{events, IsOpen}
use Rattle.cb_spec.specs.Sound.{Good}
use Rattle.cb_code.specs.declared.place.Place.{Place}
use Rattle.cb_code.specs.declared.place.Place.TheVariants.{At, Ready, Ended}
use Rattle.cb_settling.specs.declared.settle.Outcome.{Outcome}
use Rattle.cb_settling.specs.declared.settle.Outcome.TheVariants.{Shown, Over}
use Rattle.cb_system.specs.Views.{last_end}

-- of the journal: it is a good run, so many events are in it, it ends by this cause, and else there is room for an entry more
pub record Keeps (y : System) (limit : ℕ) (s0 : Writes) (es : List Entry) (s : State) (count : ℕ) (end : Option End) (len room : ℕ) : Type 0 where
  pub good : Good y limit s0 es (state_of s)
  pub count_is : count ≡ events es
  pub within : count ≤ limit
  pub end_is : end ≡ last_end es
  pub goes_on : end ≡ None → IsOpen es
  pub space : end ≡ None → len < room

-- ---- how many controllers are where

abbrev pub is_unsettled : Place → ℕ
is_unsettled (At k env) = 1
is_unsettled (Ready ks env) = 0
is_unsettled Ended = 0

abbrev pub is_living : Place → ℕ
is_living (At k env) = 1
is_living (Ready ks env) = 1
is_living Ended = 0

-- so many go on whose process is resolved to this
abbrev pub lives : Outcome → ℕ
lives (Shown ks own) = 1
lives Over = 0

-- so many are at a process that isn't resolved yet, and so many have not ended
pub record AreCounted (places : List Place) (unsettled living : ℕ) : Type 0 where
  pub unsettled_is : unsettled ≡ sum_by is_unsettled places
  pub living_is : living ≡ sum_by is_living places
