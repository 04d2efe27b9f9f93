-- The parts that can be read by themselves. Written by tools/table.py from tools/cspb.grammar.
use Rattle.std.specs.Prelude.{ℕ, List, [], ◌∷◌}
use Rattle.cb_grammar.specs.declared.parts.Part.{Part}
use Rattle.cb_grammar.specs.declared.parts.Part.TheVariants as part

-- the number of a part in the table
abbrev pub number_of : Part → ℕ
number_of part.Whole = 1
number_of part.Text = 2
number_of part.Proofs = 3
number_of part.Machine = 9
number_of part.Channels = 31
number_of part.Controller = 34
number_of part.Formula = 47
number_of part.Term = 62
number_of part.Domain = 25

-- the kinds of the values that it leaves, the last one first
abbrev pub kinds_left : Part → List ℕ
kinds_left part.Whole = 23 ∷ 17 ∷ []
kinds_left part.Text = 17 ∷ []
kinds_left part.Proofs = 23 ∷ []
kinds_left part.Machine = 19 ∷ []
kinds_left part.Channels = 20 ∷ []
kinds_left part.Controller = 22 ∷ []
kinds_left part.Formula = 42 ∷ []
kinds_left part.Term = 43 ∷ []
kinds_left part.Domain = 32 ∷ []
