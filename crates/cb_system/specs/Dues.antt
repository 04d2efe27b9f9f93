-- When a run ends, told by numbers and by what is offered.
use Rattle.std.specs.Prelude.{ℕ, ◌≡◌, ◌≢◌, Option, None, Some, List}
use Rattle.cb_spec.specs.declared.state.End.{End}
use Rattle.cb_spec.specs.declared.state.End.TheVariants.{Ended, Limit, Quiet, Memory}
use Rattle.cb_spec.specs.States.{state_of}
use Rattle.cb_spec.specs.Journals.{Due}
use Rattle.cb_offers.specs.declared.offers.Side.{Side}
use Rattle.cb_offers.specs.Tables.{AreIdle}
use Rattle.cb_system.specs.Views.{RunView}

abbrev pub IsCause : (living unsettled events limit : ℕ) → List (List Side) → Option End → Type 0
IsCause living unsettled events limit rows None = (living ≢ 0) × (events ≢ limit) × (unsettled ≡ 0 → ¬ AreIdle rows)
IsCause living unsettled events limit rows (Some Ended) = living ≡ 0
IsCause living unsettled events limit rows (Some Limit) = (living ≢ 0) × (events ≡ limit)
IsCause living unsettled events limit rows (Some Quiet) = (living ≢ 0) × (events ≢ limit) × (unsettled ≡ 0) × AreIdle rows
IsCause living unsettled events limit rows (Some Memory) = ⊥

-- the cause is due, if one is told, and else none is
abbrev pub IsDue : RunView → Option End → Type 0
IsDue v None = (c : End) → ¬ Due v.system v.limit v.journal (state_of v.state) c
IsDue v (Some c) = Due v.system v.limit v.journal (state_of v.state) c
