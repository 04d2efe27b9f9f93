-- The lines of substitutions and domains as one usually writes them, where the table has them in pieces.
use Rattle.std.specs.Prelude.{ℕ, zero, suc, List, [], ◌∷◌, ◌++◌}
use Rattle.cb_lex.specs.declared.token.Keyword.TheVariants as keyword
use Rattle.cb_lex.specs.declared.token.Sign.TheVariants as sign
use Rattle.cb_engine.specs.declared.Symbol.{Symbol}
use Rattle.cb_engine.specs.declared.Symbol.TheVariants.{Take, Keep, Act, Part}
use Rattle.cb_engine.specs.Lines.{Among, Repeated}
use Rattle.cb_grammar.specs.declared.actions.TheConstants as action
use Rattle.cb_grammar.specs.Classes.{keyword_class, sign_class}
use Rattle.cb_grammar.specs.Numbers as part
use Rattle.cb_grammar.specs.Written.{IsWritten}

-- ELSIF formula THEN substitution, n times
abbrev pub elsif : List Symbol
elsif = Take (keyword_class keyword.Elsif) ∷ Part part.formula ∷ Take (keyword_class keyword.Then) ∷ Part part.substitution ∷ []

abbrev pub elsifs : ℕ → List Symbol
elsifs zero = []
elsifs (suc n) = elsif ++ elsifs n

-- each ELSIF is an IF in the place of ELSE, and closes with it
abbrev pub ifs : ℕ → List Symbol
ifs zero = []
ifs (suc n) = Act action.IF ∷ ifs n

-- [ELSE substitution] END
abbrev pub if_ends : List (List Symbol)
if_ends =
    (Take (keyword_class keyword.Else) ∷ Part part.substitution ∷ Take (keyword_class keyword.End) ∷ Act action.IF ∷ []) ∷
    (Take (keyword_class keyword.End) ∷ Act action.IF_WITHOUT_ELSE ∷ []) ∷ []

-- OR substitution
abbrev pub or_side : List Symbol
or_side = Take (keyword_class keyword.ChoiceOr) ∷ Part part.substitution ∷ Act action.APPEND_SIDE ∷ []

-- simple = skip | name ":=" term | name "::" domain | BEGIN substitution END
--     | IF formula THEN substitution (ELSIF formula THEN substitution)* [ELSE substitution] END
--     | CHOICE substitution (OR substitution)+ END | ANY name WHERE formula THEN substitution END
pub data SimpleLine : List Symbol → Type 0 where
  skip : SimpleLine (Take (keyword_class keyword.Skip) ∷ Act action.SKIP ∷ [])
  assign : SimpleLine (Keep 1 ∷ Take (sign_class sign.Assign) ∷ Part part.term ∷ Act action.ASSIGN ∷ [])
  among : SimpleLine (Keep 1 ∷ Take (sign_class sign.Among) ∷ Part part.domain ∷ Act action.AMONG ∷ [])
  begin : SimpleLine (Take (keyword_class keyword.Begin) ∷ Part part.substitution ∷ Take (keyword_class keyword.End) ∷ [])
  if : (n : ℕ) (e : List Symbol) → Among if_ends e → SimpleLine (Take (keyword_class keyword.If) ∷ Part part.formula ∷ Take (keyword_class keyword.Then) ∷ Part part.substitution ∷ (elsifs n ++ (e ++ ifs n)))
  choice : (x : List Symbol) → Repeated (or_side ∷ []) x → SimpleLine (Take (keyword_class keyword.Choice) ∷ Act action.NO_SIDES ∷ Part part.substitution ∷ Act action.APPEND_SIDE ∷ or_side ++ (x ++ Take (keyword_class keyword.End) ∷ Act action.CHOICE ∷ []))
  any : SimpleLine (Take (keyword_class keyword.AnyOf) ∷ Keep 1 ∷ Take (keyword_class keyword.Where) ∷ Part part.formula ∷ Take (keyword_class keyword.Then) ∷ Part part.substitution ∷ Take (keyword_class keyword.End) ∷ Act action.ANY ∷ [])

abbrev pub SimpleIsWritten : Type 0
SimpleIsWritten = IsWritten part.simple SimpleLine

-- domain = bound ".." bound | NAT | NAT1 | INT | BOOL | name
pub data DomainLine : List Symbol → Type 0 where
  range : DomainLine (Part part.bound ∷ Take (sign_class sign.UpTo) ∷ Part part.bound ∷ Act action.RANGE ∷ [])
  naturals : DomainLine (Keep (keyword_class keyword.Nat) ∷ Act action.SET_DOMAIN ∷ [])
  positives : DomainLine (Keep (keyword_class keyword.Nat1) ∷ Act action.SET_DOMAIN ∷ [])
  integers : DomainLine (Keep (keyword_class keyword.Int) ∷ Act action.SET_DOMAIN ∷ [])
  truths : DomainLine (Keep (keyword_class keyword.Truths) ∷ Act action.SET_DOMAIN ∷ [])
  named : DomainLine (Keep 1 ∷ Act action.NAMED_DOMAIN ∷ [])

abbrev pub DomainIsWritten : Type 0
DomainIsWritten = IsWritten part.domain DomainLine

-- bound = ["-"] (number | MAXINT | MININT | name)
abbrev pub end_lines : List (List Symbol)
end_lines =
    (Keep 2 ∷ Act action.NUMBER_END ∷ []) ∷ (Keep (keyword_class keyword.MaxInt) ∷ Act action.LIMIT_END ∷ []) ∷
    (Keep (keyword_class keyword.MinInt) ∷ Act action.LIMIT_END ∷ []) ∷ (Keep 1 ∷ Act action.NAME_END ∷ []) ∷ []

pub data BoundLine : List Symbol → Type 0 where
  bound : (e : List Symbol) → Among end_lines e → BoundLine (e ++ Act action.BOUND ∷ [])
  minus : (e : List Symbol) → Among end_lines e → BoundLine (Take (sign_class sign.Minus) ∷ e ++ Act action.MINUS_BOUND ∷ [])

abbrev pub BoundIsWritten : Type 0
BoundIsWritten = IsWritten part.bound BoundLine
