-- The lines of systems, channels and controllers as one usually writes them.
use Rattle.std.specs.Prelude.{List, [], ◌∷◌}
use Rattle.cb_lex.specs.declared.token.Keyword.TheVariants as keyword
use Rattle.cb_lex.specs.declared.token.Sign.TheVariants as sign
use Rattle.cb_engine.specs.declared.Symbol.{Symbol}
use Rattle.cb_engine.specs.declared.Symbol.TheVariants.{Take, Keep, Act, Part}
use Rattle.cb_engine.specs.Lines.{Among, Repeated}
use Rattle.cb_grammar.specs.declared.actions.TheConstants as action
use Rattle.cb_grammar.specs.Classes.{keyword_class, sign_class}
use Rattle.cb_grammar.specs.Numbers as part
use Rattle.cb_grammar.specs.Written.{IsWritten, opening, closing}
use Rattle.cb_written.specs.Processes.{names_or_none}
use Rattle.cb_written.specs.Shapes.{Exactly, ◌before◌}

-- system = SYSTEM names END
abbrev pub SystemIsWritten : Type 0
SystemIsWritten = IsWritten part.system (Exactly (Take (keyword_class keyword.System) ∷ Part part.names ∷ Take (keyword_class keyword.End) ∷ Act action.SYSTEM ∷ []))

-- channels = CHANNELS channel (";" channel)* END
abbrev pub more_channel : List Symbol
more_channel = Take (sign_class sign.Semicolon) ∷ Part part.channel ∷ []

abbrev pub ChannelsLine : List Symbol → Type 0
ChannelsLine = Exactly (Take (keyword_class keyword.Channels) ∷ Act action.NO_CHANNELS ∷ Part part.channel ∷ []) before Repeated (more_channel ∷ []) before Exactly (Take (keyword_class keyword.End) ∷ [])

abbrev pub ChannelsAreWritten : Type 0
ChannelsAreWritten = IsWritten part.channels ChannelsLine

-- [WHERE formula]
abbrev pub wheres : List (List Symbol)
wheres = (Take (keyword_class keyword.Where) ∷ Part part.formula ∷ Act action.SOME_CONDITION ∷ []) ∷ (Act action.NO_CONDITION ∷ []) ∷ []

-- channel = name "(" [names] ")" [WHERE formula]
abbrev pub ChannelLine : List Symbol → Type 0
ChannelLine = Exactly (Keep 1 ∷ opening ∷ []) before Among names_or_none before Among wheres before Exactly (Act action.APPEND_CHANNEL ∷ [])

abbrev pub ChannelIsWritten : Type 0
ChannelIsWritten = IsWritten part.channel ChannelLine

-- [MACHINES names]
abbrev pub machine_names : List (List Symbol)
machine_names = (Take (keyword_class keyword.Machines) ∷ Part part.names ∷ []) ∷ (Act action.NO_NAMES ∷ []) ∷ []

-- ["(" terms ")"]
abbrev pub start_terms : List (List Symbol)
start_terms = (opening ∷ Part part.terms ∷ closing ∷ []) ∷ [] ∷ []

abbrev pub more_definition : List Symbol
more_definition = Take (sign_class sign.Semicolon) ∷ Part part.definition ∷ []

-- controller = CONTROLLER name [MACHINES names] START name ["(" terms ")"] PROCESSES definition (";" definition)* END
abbrev pub ControllerLine : List Symbol → Type 0
ControllerLine =
    Exactly (Take (keyword_class keyword.Controller) ∷ Keep 1 ∷ []) before Among machine_names before Exactly (Take (keyword_class keyword.Start) ∷ Keep 1 ∷ Act action.NO_TERMS ∷ []) before Among start_terms before
    Exactly (Take (keyword_class keyword.Processes) ∷ Act action.NO_DEFINITIONS ∷ Part part.definition ∷ []) before Repeated (more_definition ∷ []) before
    Exactly (Take (keyword_class keyword.End) ∷ Act action.CONTROLLER ∷ [])

abbrev pub ControllerIsWritten : Type 0
ControllerIsWritten = IsWritten part.controller ControllerLine

-- ["(" parameters ")"]
abbrev pub parameters_or_none : List (List Symbol)
parameters_or_none = (opening ∷ Part part.parameters ∷ closing ∷ []) ∷ [] ∷ []

-- [INV "(" formula ")"]
abbrev pub invariants : List (List Symbol)
invariants = (Take (keyword_class keyword.Inv) ∷ opening ∷ Part part.formula ∷ closing ∷ Act action.SOME_CONDITION ∷ []) ∷ (Act action.NO_CONDITION ∷ []) ∷ []

-- definition = name ["(" parameters ")"] [INV "(" formula ")"] "=" process
abbrev pub DefinitionLine : List Symbol → Type 0
DefinitionLine =
    Exactly (Keep 1 ∷ Act action.NO_PARAMETERS ∷ []) before Among parameters_or_none before Among invariants before Exactly (Take (sign_class sign.Equal) ∷ Part part.process ∷ Act action.APPEND_DEFINITION ∷ [])

abbrev pub DefinitionIsWritten : Type 0
DefinitionIsWritten = IsWritten part.definition DefinitionLine

-- parameters = parameter ("," parameter)*
abbrev pub more_parameter : List Symbol
more_parameter = Take (sign_class sign.Comma) ∷ Part part.parameter ∷ Act action.APPEND_PARAMETER ∷ []

abbrev pub ParametersLine : List Symbol → Type 0
ParametersLine = Exactly (Part part.parameter ∷ Act action.APPEND_PARAMETER ∷ []) before Repeated (more_parameter ∷ [])

abbrev pub ParametersAreWritten : Type 0
ParametersAreWritten = IsWritten part.parameters ParametersLine

-- parameter = name ":" domain | name "<:" domain
abbrev pub parameter_lines : List (List Symbol)
parameter_lines =
    (Keep 1 ∷ Take (sign_class sign.Member) ∷ Part part.domain ∷ Act action.PARAMETER_IN ∷ []) ∷ (Keep 1 ∷ Take (sign_class sign.Subset) ∷ Part part.domain ∷ Act action.PARAMETER_SUBSET ∷ []) ∷ []

abbrev pub ParameterIsWritten : Type 0
ParameterIsWritten = IsWritten part.parameter (Among parameter_lines)
