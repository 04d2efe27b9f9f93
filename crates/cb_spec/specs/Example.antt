-- A small typed system: a payer sends 3 to a till, which sets a box to what it gets.
use Rattle.std.specs.Prelude.{◌≡◌, ℕ, pos, [], ◌∷◌, None}
use Rattle.cb_term.specs.declared.name.Name.{Name}
use Rattle.cb_term.specs.declared.kind.Domain.{Domain}
use Rattle.cb_term.specs.declared.kind.Domain.TheVariants as domain
use Rattle.cb_term.specs.declared.table.SetTable.{SetTable}
use Rattle.cb_term.specs.Tree.{Var, Num, True}
use Rattle.cb_spec.specs.declared.event.Event.TheVariants as event
use Rattle.cb_spec.specs.declared.system.Channel.{Channel}
use Rattle.cb_spec.specs.declared.system.Controller.{Controller}
use Rattle.cb_spec.specs.declared.system.Declared.{Declared}
use Rattle.cb_spec.specs.declared.system.Definition.{Definition}
use Rattle.cb_spec.specs.declared.system.Machine.{Machine}
use Rattle.cb_spec.specs.declared.system.Operation.{Operation}
use Rattle.cb_spec.specs.declared.system.System.{System}
use Rattle.cb_spec.specs.SubstTree.{Assign}
use Rattle.cb_spec.specs.ProcessTree.{Stop, Skip, Prefix}
use Rattle.cb_spec.specs.Domains.{typing}
use Rattle.cb_spec.specs.Typed.{Typed}

-- the name of one letter
abbrev pub letter : ℕ → Name
letter b = record { text = b ∷ []; number = 0 }

abbrev pub digit : Domain
digit = domain.Range (pos 0) (pos 9)

abbrev pub a_digit : ℕ → Declared
a_digit b = record { name = letter b; domain = digit }

-- `s(k) = PRE k : 0..9 THEN n := k END`
abbrev pub set_box : Operation
set_box = record { name = letter 115; params = a_digit 107 ∷ []; results = []; pre = typing (Var (letter 107)) digit; body = Assign (letter 110) (Var (letter 107)) }

abbrev pub box : Machine
box = record {
  name = letter 66;
  variables = a_digit 110 ∷ [];
  invariant = typing (Var (letter 110)) digit;
  init = Assign (letter 110) (Num (pos 0));
  operations = set_box ∷ [];
}

-- `c(v) WHERE v : 0..9`
abbrev pub coin : Channel
coin = record { name = letter 99; values = a_digit 118 ∷ []; assertion = typing (Var (letter 118)) digit; sender = 0; receiver = 1 }

-- `c!(3) -> STOP`
abbrev pub pays : Definition
pays = record { name = letter 71; params = []; invariant = True; body = Prefix (event.Output 0 (Num (pos 3) ∷ []) None) Stop }

-- `c?(x) -> B.s!(x) -> SKIP`
abbrev pub takes : Definition
takes = record {
  name = letter 71;
  params = [];
  invariant = True;
  body = Prefix (event.Input 0 (letter 120 ∷ []) None) (Prefix (event.Call 0 0 (Var (letter 120) ∷ []) []) Skip);
}

abbrev pub payer : Controller
payer = record { name = letter 80; machines = []; start = 0; start_args = []; definitions = pays ∷ [] }

abbrev pub till : Controller
till = record { name = letter 84; machines = 0 ∷ []; start = 0; start_args = []; definitions = takes ∷ [] }

abbrev pub shop : SetTable → System
shop table = record { sets = table; constants = []; machines = box ∷ []; channels = coin ∷ []; controllers = payer ∷ till ∷ []; order = 0 ∷ 1 ∷ [] }

-- so what is asked of a typed system does not contradict itself
abbrev pub ShopIsTyped : Type 0
ShopIsTyped = (table : SetTable) → table.sets.items ≡ [] → Typed (shop table)
