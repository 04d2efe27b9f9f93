-- The lines of machines, controllers and terms.
use Rattle.std.specs.Prelude.{◌≡◌, ℕ, Bool, true, ◌||◌, eqb, List, [], ◌∷◌, refl}
use Rattle.std.proofs.Common.{subst}
use Rattle.cb_lex.specs.declared.token.Keyword.TheVariants as keyword
use Rattle.cb_lex.specs.declared.token.Sign.TheVariants as sign
use Rattle.cb_engine.specs.declared.Symbol.{Symbol}
use Rattle.cb_engine.specs.declared.Symbol.TheVariants.{Take, Keep, Act, Part}
use Rattle.cb_engine.specs.Lines.{alternatives, Among, Repeated}
use Rattle.cb_grammar.specs.declared.table.TheConstants.{GRAMMAR}
use Rattle.cb_grammar.specs.declared.actions.TheConstants as action
use Rattle.cb_grammar.specs.Classes.{keyword_class, sign_class}
use Rattle.cb_grammar.specs.Numbers as part
use Rattle.cb_grammar.specs.Written.{IsWritten, opening}
use Rattle.cb_written.specs.Shapes.{Exactly, ◌before◌, OrNothing}
use Rattle.cb_written.specs.Processes.{names_or_none}
use Rattle.cb_written.specs.Machines.{seen, more_set, SetsLine, more_operation, OperationsLine, MachineLine, MachineIsWritten, more_name, NamesLine, NamesIsWritten, SetIsWritten, more_property, ConstantsLine, ConstantsAreWritten, PropertyIsWritten, LiteralIsWritten, literal_lines, StateIsWritten, state_lines}
use Rattle.cb_written.specs.Controllers.{SystemIsWritten, more_channel, ChannelsLine, ChannelsAreWritten, wheres, ChannelLine, ChannelIsWritten, machine_names, start_terms, more_definition, ControllerLine, ControllerIsWritten, parameters_or_none, invariants, DefinitionLine, DefinitionIsWritten, more_parameter, ParametersLine, ParametersAreWritten, ParameterIsWritten, parameter_lines}
use Rattle.cb_written.specs.Terms.{factor_lines, FactorIsWritten, more_term, TermsLine, TermsAreWritten}
use Rattle.cb_written.proofs.Standing.{Stands, AllStand, exact, line, more_lines, part_of, choice, many, ◌then◌, joined, all_ask_none, is_written}
use Rattle.cb_written.proofs.Expanding.{expanded, expanded_stands, lines_in_place, all_no_thens, lines_stand}

-- a part that has one line
pub one_line : (n : ℕ) (r : List Symbol) (P : List Symbol → Type 0) → alternatives GRAMMAR n ≡ r ∷ [] → Stands r P → IsWritten n P
one_line n r P e s = is_written n P (part_of n (r ∷ []) P e (line r P s))

-- a part that may be nothing
or_nothing : (n : ℕ) (r : List Symbol) (P : List Symbol → Type 0) → alternatives GRAMMAR n ≡ r ∷ [] ∷ [] → Stands r P → Stands (Part n ∷ []) (OrNothing P)
or_nothing n r P e s = part_of n (r ∷ [] ∷ []) (OrNothing P) e (more_lines r ([] ∷ []) P (Exactly []) s (line [] (Exactly []) (exact [] refl)))

-- a part of flat lines
flat : (n : ℕ) (ls : List (List Symbol)) → all_ask_none ls ≡ true → alternatives GRAMMAR n ≡ ls → IsWritten n (Among ls)
flat n ls t e = is_written n (Among ls) (choice n ls t e)

sets_stand : Stands (Part part.machine_3 ∷ []) (OrNothing SetsLine)
sets_stand = or_nothing part.machine_3 _ SetsLine refl (exact (Take (keyword_class keyword.Sets) ∷ Part part.enumerated_set ∷ []) refl then many part.machine_2 (more_set ∷ []) refl refl)

operations_stand : Stands (Part part.machine_5 ∷ []) (OrNothing OperationsLine)
operations_stand = or_nothing part.machine_5 _ OperationsLine refl (exact (Take (keyword_class keyword.Operations) ∷ Part part.operation ∷ []) refl then many part.machine_4 (more_operation ∷ []) refl refl)

pub machine_written : MachineIsWritten
machine_written =
    one_line part.machine _ MachineLine refl (exact (Take (keyword_class keyword.Machine) ∷ Keep 1 ∷ []) refl then choice part.machine_1 seen refl refl then exact (Act action.NO_SETS ∷ []) refl then sets_stand then
    exact (Part part.constants ∷ Part part.state ∷ Act action.NO_OPERATIONS ∷ []) refl then operations_stand then exact (Take (keyword_class keyword.End) ∷ Act action.MACHINE ∷ []) refl)

pub names_written : NamesIsWritten
names_written = one_line part.names _ NamesLine refl (exact (Act action.NO_NAMES ∷ Keep 1 ∷ Act action.APPEND_NAME ∷ []) refl then many part.names_1 (more_name ∷ []) refl refl)

pub set_written : SetIsWritten
set_written = one_line part.enumerated_set _ _ refl (exact _ refl)

abbrev constants_line : List Symbol
constants_line = Take (keyword_class keyword.Constants) ∷ Part part.names ∷ Take (keyword_class keyword.Properties) ∷ Act action.NO_PROPERTIES ∷ Part part.property ∷ []

abbrev no_constants : List Symbol
no_constants = Act action.NO_NAMES ∷ Act action.NO_PROPERTIES ∷ []

pub constants_written : ConstantsAreWritten
constants_written =
    is_written part.constants ConstantsLine (part_of part.constants _ ConstantsLine refl
    (more_lines _ _ (Exactly constants_line before Repeated (more_property ∷ [])) (Exactly no_constants) (exact constants_line refl then many part.constants_1 (more_property ∷ []) refl refl) (line no_constants (Exactly no_constants) (exact no_constants refl))))

pub property_written : PropertyIsWritten
property_written = one_line part.property _ _ refl (exact _ refl)

pub literal_written : LiteralIsWritten
literal_written = flat part.literal literal_lines refl refl

pub state_written : StateIsWritten
state_written = flat part.state state_lines refl refl

pub system_written : SystemIsWritten
system_written = one_line part.system _ _ refl (exact _ refl)

pub channels_written : ChannelsAreWritten
channels_written =
    one_line part.channels _ ChannelsLine refl (exact (Take (keyword_class keyword.Channels) ∷ Act action.NO_CHANNELS ∷ Part part.channel ∷ []) refl then many part.channels_1 (more_channel ∷ []) refl refl then exact (Take (keyword_class keyword.End) ∷ []) refl)

pub channel_written : ChannelIsWritten
channel_written =
    one_line part.channel _ ChannelLine refl (exact (Keep 1 ∷ opening ∷ []) refl then choice part.names_end names_or_none refl refl then choice part.channel_1 wheres refl refl then exact (Act action.APPEND_CHANNEL ∷ []) refl)

abbrev controller_head : List Symbol
controller_head = Take (keyword_class keyword.Controller) ∷ []

-- what stands behind the word CONTROLLER
abbrev ControllerRest : List Symbol → Type 0
ControllerRest =
    Exactly (Keep 1 ∷ []) before Among machine_names before Exactly (Take (keyword_class keyword.Start) ∷ Keep 1 ∷ Act action.NO_TERMS ∷ []) before Among start_terms before
    Exactly (Take (keyword_class keyword.Processes) ∷ Act action.NO_DEFINITIONS ∷ Part part.definition ∷ []) before Repeated (more_definition ∷ []) before
    Exactly (Take (keyword_class keyword.End) ∷ Act action.CONTROLLER ∷ [])

rest_stands : Stands (Part part.controller_rest ∷ []) ControllerRest
rest_stands =
    part_of part.controller_rest _ ControllerRest refl (line _ ControllerRest (
    exact (Keep 1 ∷ []) refl then choice part.controller_rest_1 machine_names refl refl then exact (Take (keyword_class keyword.Start) ∷ Keep 1 ∷ Act action.NO_TERMS ∷ []) refl then
    choice part.controller_rest_2 start_terms refl refl then exact (Take (keyword_class keyword.Processes) ∷ Act action.NO_DEFINITIONS ∷ Part part.definition ∷ []) refl then
    many part.controller_rest_3 (more_definition ∷ []) refl refl then exact (Take (keyword_class keyword.End) ∷ Act action.CONTROLLER ∷ []) refl))

pub controller_written : ControllerIsWritten
controller_written = one_line part.controller _ ControllerLine refl (joined controller_head (Keep 1 ∷ []) _ _ (exact controller_head refl then rest_stands))

pub definition_written : DefinitionIsWritten
definition_written =
    one_line part.definition _ DefinitionLine refl (exact (Keep 1 ∷ Act action.NO_PARAMETERS ∷ []) refl then choice part.definition_1 parameters_or_none refl refl then choice part.definition_2 invariants refl refl then
    exact (Take (sign_class sign.Equal) ∷ Part part.process ∷ Act action.APPEND_DEFINITION ∷ []) refl)

pub parameters_written : ParametersAreWritten
parameters_written = one_line part.parameters _ ParametersLine refl (exact (Part part.parameter ∷ Act action.APPEND_PARAMETER ∷ []) refl then many part.parameters_1 (more_parameter ∷ []) refl refl)

pub terms_written : TermsAreWritten
terms_written = one_line part.terms _ TermsLine refl (exact (Part part.term ∷ Act action.APPEND_TERM ∷ []) refl then many part.terms_1 (more_term ∷ []) refl refl)

-- lines with the chosen parts' lines in their places
pub lines_expanded : (chosen : ℕ → Bool) (f : ℕ) (ls rs : List (List Symbol)) → all_no_thens ls ≡ true → lines_in_place (λ m. expanded chosen f m) ls ≡ rs → AllStand ls (Among rs)
lines_expanded chosen f ls rs t e = subst (λ (x : List (List Symbol)). AllStand ls (Among x)) e (lines_stand (λ m. expanded chosen f m) (λ m. expanded_stands chosen f m) ls t)

pub of_expanded : (chosen : ℕ → Bool) (f n : ℕ) (rs : List (List Symbol)) → all_no_thens (alternatives GRAMMAR n) ≡ true → lines_in_place (λ m. expanded chosen f m) (alternatives GRAMMAR n) ≡ rs → IsWritten n (Among rs)
of_expanded chosen f n rs t e = is_written n (Among rs) (part_of n (alternatives GRAMMAR n) (Among rs) refl (lines_expanded chosen f (alternatives GRAMMAR n) rs t e))

pub parameter_written : ParameterIsWritten
parameter_written = of_expanded (λ n. eqb n part.parameter_1) 1 part.parameter parameter_lines refl refl

pub factor_written : FactorIsWritten
factor_written = of_expanded (λ n. eqb n part.factor_start || eqb n part.set_end) 2 part.factor factor_lines refl refl
