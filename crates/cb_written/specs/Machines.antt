-- The lines of machines as one usually writes them.
use Rattle.std.specs.Prelude.{List, [], ◌∷◌}
use Rattle.cb_lex.specs.declared.token.Keyword.TheVariants as keyword
use Rattle.cb_lex.specs.declared.token.Sign.TheVariants as sign
use Rattle.cb_engine.specs.declared.Symbol.{Symbol}
use Rattle.cb_engine.specs.declared.Symbol.TheVariants.{Take, Keep, Act, Part}
use Rattle.cb_engine.specs.Lines.{Among, Repeated}
use Rattle.cb_grammar.specs.declared.actions.TheConstants as action
use Rattle.cb_grammar.specs.Classes.{keyword_class, sign_class}
use Rattle.cb_grammar.specs.Numbers as part
use Rattle.cb_grammar.specs.Written.{IsWritten}
use Rattle.cb_written.specs.Shapes.{Exactly, ◌before◌, OrNothing, Either}

-- ["SEES" names]
abbrev pub seen : List (List Symbol)
seen = (Take (keyword_class keyword.Sees) ∷ Part part.names ∷ []) ∷ (Act action.NO_NAMES ∷ []) ∷ []

-- "SETS" set (";" set)*
abbrev pub more_set : List Symbol
more_set = Take (sign_class sign.Semicolon) ∷ Part part.enumerated_set ∷ []

abbrev pub SetsLine : List Symbol → Type 0
SetsLine = Exactly (Take (keyword_class keyword.Sets) ∷ Part part.enumerated_set ∷ []) before Repeated (more_set ∷ [])

-- "OPERATIONS" operation (";" operation)*
abbrev pub more_operation : List Symbol
more_operation = Take (sign_class sign.Semicolon) ∷ Part part.operation ∷ []

abbrev pub OperationsLine : List Symbol → Type 0
OperationsLine = Exactly (Take (keyword_class keyword.Operations) ∷ Part part.operation ∷ []) before Repeated (more_operation ∷ [])

-- machine = MACHINE name [SEES names] [SETS enumerated_set (";" enumerated_set)*] constants state
--     [OPERATIONS operation (";" operation)*] END
abbrev pub MachineLine : List Symbol → Type 0
MachineLine =
    Exactly (Take (keyword_class keyword.Machine) ∷ Keep 1 ∷ []) before Among seen before Exactly (Act action.NO_SETS ∷ []) before OrNothing SetsLine before
    Exactly (Part part.constants ∷ Part part.state ∷ Act action.NO_OPERATIONS ∷ []) before OrNothing OperationsLine before
    Exactly (Take (keyword_class keyword.End) ∷ Act action.MACHINE ∷ [])

abbrev pub MachineIsWritten : Type 0
MachineIsWritten = IsWritten part.machine MachineLine

-- names = name ("," name)*
abbrev pub more_name : List Symbol
more_name = Take (sign_class sign.Comma) ∷ Keep 1 ∷ Act action.APPEND_NAME ∷ []

abbrev pub NamesLine : List Symbol → Type 0
NamesLine = Exactly (Act action.NO_NAMES ∷ Keep 1 ∷ Act action.APPEND_NAME ∷ []) before Repeated (more_name ∷ [])

abbrev pub NamesIsWritten : Type 0
NamesIsWritten = IsWritten part.names NamesLine

-- enumerated_set = name "=" "{" names "}"
abbrev pub SetIsWritten : Type 0
SetIsWritten =
    IsWritten part.enumerated_set (Exactly (Keep 1 ∷ Take (sign_class sign.Equal) ∷ Take (sign_class sign.OpenBrace) ∷ Part part.names ∷ Take (sign_class sign.CloseBrace) ∷ Act action.APPEND_SET ∷ []))

-- constants = [CONSTANTS names PROPERTIES property ("&" property)*]
abbrev pub more_property : List Symbol
more_property = Take (sign_class sign.And) ∷ Part part.property ∷ []

abbrev pub ConstantsLine : List Symbol → Type 0
ConstantsLine =
    Either
    (Exactly (Take (keyword_class keyword.Constants) ∷ Part part.names ∷ Take (keyword_class keyword.Properties) ∷ Act action.NO_PROPERTIES ∷ Part part.property ∷ []) before Repeated (more_property ∷ []))
    (Exactly (Act action.NO_NAMES ∷ Act action.NO_PROPERTIES ∷ []))

abbrev pub ConstantsAreWritten : Type 0
ConstantsAreWritten = IsWritten part.constants ConstantsLine

-- property = name "=" literal
abbrev pub PropertyIsWritten : Type 0
PropertyIsWritten = IsWritten part.property (Exactly (Keep 1 ∷ Take (sign_class sign.Equal) ∷ Part part.literal ∷ Act action.APPEND_PROPERTY ∷ []))

-- literal = "-" number | number | MAXINT | MININT
abbrev pub literal_lines : List (List Symbol)
literal_lines =
    (Take (sign_class sign.Minus) ∷ Keep 2 ∷ Act action.MINUS_LITERAL ∷ []) ∷ (Keep 2 ∷ Act action.LITERAL ∷ []) ∷
    (Keep (keyword_class keyword.MaxInt) ∷ Act action.LIMIT_LITERAL ∷ []) ∷ (Keep (keyword_class keyword.MinInt) ∷ Act action.LIMIT_LITERAL ∷ []) ∷ []

abbrev pub LiteralIsWritten : Type 0
LiteralIsWritten = IsWritten part.literal (Among literal_lines)

-- state = [VARIABLES names INVARIANT formula INITIALISATION substitution]
abbrev pub state_lines : List (List Symbol)
state_lines =
    (Take (keyword_class keyword.Variables) ∷ Part part.names ∷ Take (keyword_class keyword.Invariant) ∷ Part part.formula ∷ Take (keyword_class keyword.Initialisation) ∷ Part part.substitution ∷ Act action.SOME_STATE ∷ []) ∷
    (Act action.NO_STATE ∷ []) ∷ []

abbrev pub StateIsWritten : Type 0
StateIsWritten = IsWritten part.state (Among state_lines)
