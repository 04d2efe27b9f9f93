-- The printed text of events and processes.
use Rattle.std.specs.Prelude.{ℕ, Bool, true, false, not, List, [], ◌++◌, Option, Some, None, codes}
use Rattle.cb_lex.specs.declared.raw.event.RawCall.{RawCall}
use Rattle.cb_lex.specs.declared.raw.event.RawEvent.{RawEvent}
use Rattle.cb_lex.specs.declared.raw.event.RawEvent.TheVariants as event
use Rattle.cb_lex.specs.declared.raw.name.RawName.{RawName}
use Rattle.cb_lex.specs.RawTermTree.{RawTermTree, RawFormulaTree, raw_terms}
use Rattle.cb_lex.specs.RawProcessTree.{RawProcessTree, RawProcesses}
use Rattle.cb_lex.specs.RawProcessTree as tree
use Rattle.cb_shapes.specs.Full.{some}
use Rattle.cb_amn_print.specs.Tokens.{name_text, only_if, wrapped}
use Rattle.cb_amn_print.specs.Formulas.{terms_text, formula_text}
use Rattle.cb_amn_print.specs.Machines.{names_text}

-- terms with commas between them
abbrev pub list_text : List RawTermTree → List ℕ
list_text ts = terms_text true (raw_terms ts)

-- terms in parentheses, or nothing
abbrev pub arguments_text : List RawTermTree → List ℕ
arguments_text ts = only_if (some ts) (codes "( ") ++ list_text ts ++ only_if (some ts) (codes ") ")

abbrev pub call_text : RawCall → List ℕ
call_text c = name_text c.name ++ arguments_text c.arguments

abbrev pub guard_text : Option RawFormulaTree → List ℕ
guard_text None = []
guard_text (Some f) = codes "{ " ++ formula_text false f ++ codes "} "

-- what an operation is given, or nothing
abbrev pub passed_text : List RawTermTree → List ℕ
passed_text ts = only_if (some ts) (codes "! ") ++ arguments_text ts

-- the names for what an operation gives back, or nothing
abbrev pub returned_text : List RawName → List ℕ
returned_text xs = only_if (some xs) (codes "? ( ") ++ names_text true xs ++ only_if (some xs) (codes ") ")

abbrev pub event_text : RawEvent → List ℕ
event_text (event.Output c ts f) = name_text c ++ codes "! ( " ++ list_text ts ++ codes ") " ++ guard_text f
event_text (event.Input c xs f) = name_text c ++ codes "? ( " ++ names_text true xs ++ codes ") " ++ guard_text f
event_text (event.Operation m o ts xs) = name_text m ++ codes ". " ++ name_text o ++ passed_text ts ++ returned_text xs

-- A chain that is `inner` is an operand of a chain or stands behind an event: then it has parentheses.
abbrev mutual
  pub process_text : Bool → RawProcessTree → List ℕ
  process_text inner (tree.Stop p) = codes "STOP "
  process_text inner (tree.Skip p) = codes "SKIP "
  process_text inner (tree.Call c) = call_text c
  process_text inner (tree.If p f a b) = codes "IF " ++ formula_text false f ++ codes "THEN " ++ process_text false a ++ codes "ELSE " ++ process_text false b ++ codes "END "
  process_text inner (tree.Prefix e a) = event_text e ++ codes "-> " ++ process_text true a
  process_text inner (tree.External ps) = wrapped inner (chain_text (codes "[] ") true ps)
  process_text inner (tree.Internal ps) = wrapped inner (chain_text (codes "|~| ") true ps)

  -- the operands with the sign between them
  pub chain_text : List ℕ → Bool → RawProcesses → List ℕ
  chain_text sign first tree.NoOperand = []
  chain_text sign first (tree.Operand p ps) = only_if (not first) sign ++ process_text true p ++ chain_text sign false ps
