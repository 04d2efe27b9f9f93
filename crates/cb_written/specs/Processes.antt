-- The lines of steps, items and events as one usually writes them, where the table has them in pieces.
use Rattle.std.specs.Prelude.{List, [], ◌∷◌, ◌++◌}
use Rattle.cb_lex.specs.declared.token.Keyword.TheVariants as keyword
use Rattle.cb_lex.specs.declared.token.Sign.TheVariants as sign
use Rattle.cb_engine.specs.declared.Symbol.{Symbol}
use Rattle.cb_engine.specs.declared.Symbol.TheVariants.{Take, Keep, Act, Part}
use Rattle.cb_engine.specs.Lines.{Among}
use Rattle.cb_grammar.specs.declared.actions.TheConstants as action
use Rattle.cb_grammar.specs.Classes.{keyword_class, sign_class}
use Rattle.cb_grammar.specs.Numbers as part
use Rattle.cb_grammar.specs.Written.{IsWritten, opening, closing, dot}

-- [terms] ")"
abbrev pub terms_or_none : List (List Symbol)
terms_or_none = (closing ∷ []) ∷ (Part part.terms ∷ closing ∷ []) ∷ []

-- [names] ")"
abbrev pub names_or_none : List (List Symbol)
names_or_none = (closing ∷ Act action.NO_NAMES ∷ []) ∷ (Part part.names ∷ closing ∷ []) ∷ []

-- ["{" formula "}"]
abbrev pub guards : List (List Symbol)
guards = (Take (sign_class sign.OpenBrace) ∷ Part part.formula ∷ Take (sign_class sign.CloseBrace) ∷ Act action.SOME_CONDITION ∷ []) ∷ (Act action.NO_CONDITION ∷ []) ∷ []

-- ["!" "(" terms ")"]
abbrev pub passed : List (List Symbol)
passed = (Take (sign_class sign.Bang) ∷ opening ∷ Part part.terms ∷ closing ∷ []) ∷ [] ∷ []

-- ["?" "(" names ")"]
abbrev pub returned : List (List Symbol)
returned = (Take (sign_class sign.Query) ∷ opening ∷ Part part.names ∷ closing ∷ []) ∷ (Act action.NO_NAMES ∷ []) ∷ []

-- event = name "!" "(" [terms] ")" ["{" formula "}"] | name "?" "(" [names] ")" ["{" formula "}"]
--     | name "." name ["!" "(" terms ")"] ["?" "(" names ")"]
pub data EventLine : List Symbol → Type 0 where
  output : (t g : List Symbol) → Among terms_or_none t → Among guards g → EventLine (Keep 1 ∷ Take (sign_class sign.Bang) ∷ opening ∷ Act action.NO_TERMS ∷ (t ++ (g ++ Act action.OUTPUT ∷ [])))
  input : (n g : List Symbol) → Among names_or_none n → Among guards g → EventLine (Keep 1 ∷ Take (sign_class sign.Query) ∷ opening ∷ (n ++ (g ++ Act action.INPUT ∷ [])))
  operation_call : (p r : List Symbol) → Among passed p → Among returned r → EventLine (Keep 1 ∷ dot ∷ Keep 1 ∷ Act action.NO_TERMS ∷ (p ++ (r ++ Act action.OPERATION_CALL ∷ [])))

-- ["(" terms ")"]
abbrev pub arguments : List (List Symbol)
arguments = (opening ∷ Act action.NO_TERMS ∷ Part part.terms ∷ closing ∷ []) ∷ (Act action.NO_TERMS ∷ []) ∷ []

-- item = STOP | SKIP | name ["(" terms ")"] | "(" process ")" | IF formula THEN process ELSE process END
pub data ItemLine : List Symbol → Type 0 where
  stop : ItemLine (Keep (keyword_class keyword.Stop) ∷ Act action.STOP ∷ [])
  skip : ItemLine (Keep (keyword_class keyword.SkipProcess) ∷ Act action.SKIP_PROCESS ∷ [])
  call : (a : List Symbol) → Among arguments a → ItemLine (Keep 1 ∷ (a ++ Act action.CALL ∷ []))
  parentheses : ItemLine (opening ∷ Part part.process ∷ closing ∷ [])
  if : ItemLine (Keep (keyword_class keyword.If) ∷ Part part.formula ∷ Take (keyword_class keyword.Then) ∷ Part part.process ∷ Take (keyword_class keyword.Else) ∷ Part part.process ∷ Take (keyword_class keyword.End) ∷ Act action.PROCESS_IF ∷ [])

-- step = event "->" step | item
pub data StepLine : List Symbol → Type 0 where
  prefix : (e : List Symbol) → EventLine e → StepLine (e ++ Take (sign_class sign.Arrow) ∷ Part part.step ∷ Act action.PREFIX ∷ [])
  item : (i : List Symbol) → ItemLine i → StepLine i

abbrev pub StepIsWritten : Type 0
StepIsWritten = IsWritten part.step StepLine
