-- A worked system: a player rolls a die, adds what it shows to a score, and then rolls again, or says it and is done. A listener
-- hears it, and then listens again, or is done.
use Rattle.std.specs.Prelude.{◌≡◌, pos, List, [], ◌∷◌, Some}
use Rattle.cb_term.specs.declared.kind.Kind.TheVariants as kind
use Rattle.cb_term.specs.declared.sign.TermSign.TheVariants.{Add}
use Rattle.cb_term.specs.declared.sign.RelSign.TheVariants.{Less, AtMost}
use Rattle.cb_term.specs.declared.table.SetTable.{SetTable}
use Rattle.cb_term.specs.declared.value.Value.TheVariants as value
use Rattle.cb_term.specs.Tree.{True, Bin, Rel}
use Rattle.cb_spec.specs.declared.event.Event.TheVariants as event
use Rattle.cb_spec.specs.declared.system.Channel.{Channel}
use Rattle.cb_spec.specs.declared.system.Controller.{Controller}
use Rattle.cb_spec.specs.declared.system.Definition.{Definition}
use Rattle.cb_spec.specs.declared.system.Machine.{Machine}
use Rattle.cb_spec.specs.declared.system.Operation.{Operation}
use Rattle.cb_spec.specs.declared.system.System.{System}
use Rattle.cb_spec.specs.declared.state.End.TheVariants.{Quiet}
use Rattle.cb_spec.specs.declared.state.Entry.{Entry}
use Rattle.cb_spec.specs.declared.state.Entry.TheVariants as entry
use Rattle.cb_spec.specs.SubstTree.{Assign, Together, If, AnyOf}
use Rattle.cb_spec.specs.Stores.{Writes}
use Rattle.cb_spec.specs.States.{StateView}
use Rattle.cb_spec.specs.Journals.{Run, IsComplete}
use Rattle.cb_spec.specs.ProcessTree.{ProcessTree, Skip, Call, Prefix, Internal}
use Rattle.cb_spec.specs.Domains.{typing}
use Rattle.cb_spec.specs.Example.{letter}
use Rattle.cb_spec.specs.Safe.{Safe}
use Rattle.cb_spec.specs.Sound.{Sound}
use Rattle.cb_spec.specs.Typed.{Typed}
use Rattle.cb_conditions.specs.Till.{of_name, number, within, declared}

-- l 108, t 116, z 122, r 114, k 107, q 113, v 118, w 119

-- `r <-- o = ANY z WHERE z : 1..6 THEN r := z || l := z END`
abbrev pub roll : Operation
roll = record {
  name = letter 111;
  params = [];
  results = (letter 114, kind.Integer) ∷ [];
  pre = True;
  body = AnyOf (letter 122) (within 1 6) (typing (of_name 122) (within 1 6)) (Together (Assign (letter 114) (of_name 122)) (Assign (letter 108) (of_name 122)));
}

-- what it showed last
abbrev pub die : Machine
die = record {
  name = letter 68;
  variables = record { name = letter 108; domain = within 1 6 } ∷ [];
  invariant = typing (of_name 108) (within 1 6);
  init = Assign (letter 108) (number 1);
  operations = roll ∷ [];
}

-- `a(k) = PRE k : 1..6 THEN IF t + k <= 60 THEN t := t + k ELSE t := k END END`
abbrev pub add : Operation
add = record {
  name = letter 97;
  params = record { name = letter 107; domain = within 1 6 } ∷ [];
  results = [];
  pre = typing (of_name 107) (within 1 6);
  body = If (Rel AtMost (Bin Add (of_name 116) (of_name 107)) (number 60)) (Assign (letter 116) (Bin Add (of_name 116) (of_name 107))) (Assign (letter 116) (of_name 107));
}

abbrev pub score : Machine
score = record {
  name = letter 83;
  variables = record { name = letter 116; domain = within 0 60 } ∷ [];
  invariant = typing (of_name 116) (within 0 60);
  init = Assign (letter 116) (number 0);
  operations = add ∷ [];
}

-- `s(v) WHERE v : 1..9`
abbrev pub said : Channel
said = record { name = letter 115; values = declared 118 1 ∷ []; assertion = typing (of_name 118) (within 1 9); sender = 0; receiver = 1 }

-- `s!(q){v : 1..6} -> SKIP`
abbrev pub tells : ProcessTree
tells = Prefix (event.Output 0 (of_name 113 ∷ []) (Some (typing (of_name 118) (within 1 6)))) Skip

-- `Die.o?(q) -> Score.a!(q) -> (Play |~| s!(q){v : 1..6} -> SKIP)`
abbrev pub play : Definition
play = record {
  name = letter 112;
  params = [];
  invariant = True;
  body = Prefix (event.Call 0 0 [] (letter 113 ∷ []))
      (Prefix (event.Call 1 0 (of_name 113 ∷ []) []) (Internal (Call 0 []) tells));
}

abbrev pub player : Controller
player = record { name = letter 80; machines = 0 ∷ 1 ∷ []; start = 0; start_args = []; definitions = play ∷ [] }

-- `s?(w){0 < w} -> (Hear |~| SKIP)`
abbrev pub hear : Definition
hear = record {
  name = letter 104;
  params = [];
  invariant = True;
  body = Prefix (event.Input 0 (letter 119 ∷ []) (Some (Rel Less (number 0) (of_name 119)))) (Internal (Call 0 []) Skip);
}

abbrev pub listener : Controller
listener = record { name = letter 76; machines = []; start = 0; start_args = []; definitions = hear ∷ [] }

abbrev pub dice : SetTable → System
dice table = record {
  sets = table;
  constants = [];
  machines = die ∷ score ∷ [];
  channels = said ∷ [];
  controllers = player ∷ listener ∷ [];
  order = 0 ∷ 1 ∷ [];
}

-- it is typed, and all that it owes is valid: so it is safe
pub record DiceAreSafe : Type 0 where
  pub typed : (table : SetTable) → table.sets.items ≡ [] → Typed (dice table)
  pub sound : (table : SetTable) → table.sets.items ≡ [] → Sound (dice table)
  pub safe : (table : SetTable) → table.sets.items ≡ [] → Safe (dice table)

abbrev pub first_values : Writes
first_values = (letter 108, value.Int (pos 1)) ∷ (letter 116, value.Int (pos 0)) ∷ []

-- the die shows 4, which is added; the player takes the right side and says it; the listener takes the left, and nobody speaks
abbrev pub one_roll : List Entry
one_roll =
    entry.Settle 0 0
    ∷ entry.Op 0 0 0 0 [] (value.Int (pos 4) ∷ []) ((letter 108, value.Int (pos 4)) ∷ [])
    ∷ entry.Settle 0 0
    ∷ entry.Op 0 0 1 0 (value.Int (pos 4) ∷ []) [] ((letter 116, value.Int (pos 4)) ∷ [])
    ∷ entry.Settle 0 1
    ∷ entry.Settle 1 0
    ∷ entry.Pass 0 0 0 (value.Int (pos 4) ∷ [])
    ∷ entry.Settle 0 0
    ∷ entry.Settle 1 0
    ∷ entry.End Quiet
    ∷ []

-- so nothing is asked of an entry that none meets
abbrev pub DiceRun : Type 0
DiceRun = (table : SetTable) → (s : StateView) × Run (dice table) 9 first_values one_roll s × IsComplete one_roll
