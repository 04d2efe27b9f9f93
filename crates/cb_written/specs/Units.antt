-- The line of units as one usually writes it. In the table `(` of a formula and `(` of a term are one part.
use Rattle.std.specs.Prelude.{List, [], ◌∷◌}
use Rattle.cb_lex.specs.declared.token.Keyword.TheVariants as keyword
use Rattle.cb_lex.specs.declared.token.Sign.TheVariants as sign
use Rattle.cb_engine.specs.declared.Symbol.{Symbol}
use Rattle.cb_engine.specs.declared.Symbol.TheVariants.{Take, Keep, Act, Part}
use Rattle.cb_engine.specs.Lines.{Among}
use Rattle.cb_grammar.specs.declared.actions.TheConstants as action
use Rattle.cb_grammar.specs.Classes.{keyword_class, sign_class}
use Rattle.cb_grammar.specs.Numbers as part
use Rattle.cb_grammar.specs.Written.{IsWritten, opening, closing, dot}

abbrev pub related : List Symbol → List Symbol
related k = Part part.term ∷ Act action.RELATION ∷ k

-- rel term, where rel = "=" | "/=" | "<" | "<=" | ">" | ">=" | ":" | "/:" | "<:"
abbrev pub relations : List (List Symbol)
relations =
    (Keep (sign_class sign.Equal) ∷ related []) ∷ (Keep (sign_class sign.Unequal) ∷ related []) ∷ (Keep (sign_class sign.Less) ∷ related []) ∷
    (Keep (sign_class sign.AtMost) ∷ related []) ∷ (Keep (sign_class sign.Greater) ∷ related []) ∷ (Keep (sign_class sign.AtLeast) ∷ related []) ∷
    (Keep (sign_class sign.Member) ∷ related []) ∷ (Keep (sign_class sign.NotMember) ∷ related []) ∷ (Keep (sign_class sign.Subset) ∷ related []) ∷ []

-- unit = btrue | bfalse | not "(" formula ")" | "(" formula ")" | term rel term
--     | "!" name "." "(" part "=>" part ")" | "#" name "." "(" part ")"
pub data UnitLine : List Symbol → Type 0 where
  always_true : UnitLine (Take (keyword_class keyword.AlwaysTrue) ∷ Act action.ALWAYS_TRUE ∷ [])
  always_false : UnitLine (Take (keyword_class keyword.AlwaysFalse) ∷ Act action.ALWAYS_FALSE ∷ [])
  not : UnitLine (Take (keyword_class keyword.Not) ∷ opening ∷ Part part.formula ∷ closing ∷ Act action.NOT ∷ [])
  parentheses : UnitLine (opening ∷ Part part.formula ∷ closing ∷ [])
  relation : (r : List Symbol) → Among relations r → UnitLine (Part part.term ∷ r)
  for_all : UnitLine (Take (sign_class sign.Bang) ∷ Keep 1 ∷ dot ∷ opening ∷ Part part.part ∷ Take (sign_class sign.Implies) ∷ Part part.part ∷ closing ∷ Act action.FOR_ALL ∷ [])
  exists : UnitLine (Take (sign_class sign.Hash) ∷ Keep 1 ∷ dot ∷ opening ∷ Part part.part ∷ closing ∷ Act action.EXISTS ∷ [])

abbrev pub UnitIsWritten : Type 0
UnitIsWritten = IsWritten part.unit UnitLine
