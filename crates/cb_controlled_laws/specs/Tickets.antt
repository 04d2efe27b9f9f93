-- A worked system: a payer passes coins to a till, which adds each to its box where there is room, and else takes them all and
-- hands them back.
use Rattle.std.specs.Prelude.{◌≡◌, pos, List, [], ◌∷◌, None}
use Rattle.cb_term.specs.declared.table.SetTable.{SetTable}
use Rattle.cb_term.specs.declared.value.Value.TheVariants as value
use Rattle.cb_term.specs.Tree.{True}
use Rattle.cb_spec.specs.declared.event.Event.TheVariants as event
use Rattle.cb_spec.specs.declared.system.Channel.{Channel}
use Rattle.cb_spec.specs.declared.system.Controller.{Controller}
use Rattle.cb_spec.specs.declared.system.Definition.{Definition}
use Rattle.cb_spec.specs.declared.system.System.{System}
use Rattle.cb_spec.specs.declared.state.End.TheVariants.{Limit}
use Rattle.cb_spec.specs.declared.state.Entry.{Entry}
use Rattle.cb_spec.specs.declared.state.Entry.TheVariants as entry
use Rattle.cb_spec.specs.Stores.{Writes}
use Rattle.cb_spec.specs.States.{StateView}
use Rattle.cb_spec.specs.Journals.{Run, IsComplete}
use Rattle.cb_spec.specs.ProcessTree.{Call, Prefix, Choice}
use Rattle.cb_spec.specs.Domains.{typing}
use Rattle.cb_spec.specs.Example.{letter}
use Rattle.cb_spec.specs.Safe.{Safe}
use Rattle.cb_spec.specs.Sound.{Sound}
use Rattle.cb_spec.specs.Typed.{Typed}
use Rattle.cb_conditions.specs.Till.{of_name, number, within, declared, box, till}

abbrev pub coin : Channel
coin = record { name = letter 99; values = declared 118 1 ∷ []; assertion = typing (of_name 118) (within 1 9); sender = 1; receiver = 0 }

abbrev pub back : Channel
back = record { name = letter 98; values = declared 118 1 ∷ []; assertion = typing (of_name 118) (within 1 9); sender = 0; receiver = 1 }

-- `coin!(3) -> Go [] back?(x) -> Go`
abbrev pub go : Definition
go = record {
  name = letter 71;
  params = [];
  invariant = True;
  body = Choice (Prefix (event.Output 0 (number 3 ∷ []) None) (Call 0 [])) (Prefix (event.Input 1 (letter 120 ∷ []) None) (Call 0 []));
}

abbrev pub payer : Controller
payer = record { name = letter 80; machines = []; start = 0; start_args = []; definitions = go ∷ [] }

abbrev pub tickets : SetTable → System
tickets table = record {
  sets = table;
  constants = [];
  machines = box ∷ [];
  channels = coin ∷ back ∷ [];
  controllers = till ∷ payer ∷ [];
  order = 0 ∷ 1 ∷ [];
}

-- it is typed, and all that it owes is valid: so it is safe
pub record TicketsAreSafe : Type 0 where
  pub typed : (table : SetTable) → table.sets.items ≡ [] → Typed (tickets table)
  pub sound : (table : SetTable) → table.sets.items ≡ [] → Sound (tickets table)
  pub safe : (table : SetTable) → table.sets.items ≡ [] → Safe (tickets table)

abbrev pub empty_box : Writes
empty_box = (letter 110, value.Int (pos 0)) ∷ []

-- a coin passes, and is added
abbrev pub two_events : List Entry
two_events =
    entry.Settle 0 0
    ∷ entry.Settle 1 0
    ∷ entry.Pass 0 0 0 (value.Int (pos 3) ∷ [])
    ∷ entry.Settle 1 0
    ∷ entry.Settle 0 0
    ∷ entry.Op 0 0 0 0 (value.Int (pos 3) ∷ []) [] ((letter 110, value.Int (pos 3)) ∷ [])
    ∷ entry.End Limit
    ∷ []

-- so nothing is asked of an entry that none meets
abbrev pub TicketsRun : Type 0
TicketsRun = (table : SetTable) → (s : StateView) × Run (tickets table) 2 empty_box two_events s × IsComplete two_events
