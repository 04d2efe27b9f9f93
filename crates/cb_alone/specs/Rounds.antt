-- What a step of each controller in turn does.
use Rattle.std.specs.Prelude.{◌≡◌, ◌<◌, Bool, true, false, None, List, length}
use Rattle.cb_spec.specs.declared.state.Entry.{Entry}
use Rattle.cb_spec.specs.Journals.{IsComplete}
use Rattle.cb_system.specs.Views.{last_end}

-- true: the journal has ended by a cause that was due. false: it goes on, and is longer
abbrev pub IsRound : (old new : List Entry) → Bool → Type 0
IsRound old new true = IsComplete new
IsRound old new false = (last_end new ≡ None) × (length old < length new)
