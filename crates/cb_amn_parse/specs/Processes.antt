-- What is written for texts, channels, controllers and their processes.
use Rattle.std.specs.Prelude.{ℕ, List, [], ◌∷◌, ◌++◌, Option, Some, None}
use Rattle.std.specs.List.{flat_map}
use Rattle.cb_lex.specs.declared.token.Sort.TheVariants.{Keyword}
use Rattle.cb_lex.specs.declared.token.Keyword.TheVariants as keyword
use Rattle.cb_lex.specs.declared.raw.domain.RawParam.{RawParam}
use Rattle.cb_lex.specs.declared.raw.domain.RawParam.TheVariants as param
use Rattle.cb_lex.specs.declared.raw.event.RawCall.{RawCall}
use Rattle.cb_lex.specs.declared.raw.event.RawEvent.{RawEvent}
use Rattle.cb_lex.specs.declared.raw.event.RawEvent.TheVariants as event
use Rattle.cb_lex.specs.declared.raw.name.RawName.{RawName}
use Rattle.cb_lex.specs.declared.raw.text.RawText.{RawText}
use Rattle.cb_lex.specs.declared.raw.text.RawMachine.{RawMachine}
use Rattle.cb_lex.specs.declared.raw.text.RawChannel.{RawChannel}
use Rattle.cb_lex.specs.declared.raw.text.RawController.{RawController}
use Rattle.cb_lex.specs.declared.raw.text.RawDefinition.{RawDefinition}
use Rattle.cb_lex.specs.RawProcessTree.{RawProcessTree, RawProcesses, raw_processes}
use Rattle.cb_lex.specs.RawProcessTree as tree
use Rattle.cb_grammar.specs.declared.actions.TheConstants.{NO_MACHINES, APPEND_MACHINE, MACHINES_ALONE, NO_CONTROLLERS, APPEND_CONTROLLER, SYSTEM, NO_CHANNELS, APPEND_CHANNEL, CONTROLLER, NO_PARAMETERS, APPEND_PARAMETER, PARAMETER_IN, PARAMETER_SUBSET, NO_DEFINITIONS, APPEND_DEFINITION, FIRST_TWO, APPEND_PROCESS, EXTERNAL, INTERNAL, STOP, SKIP_PROCESS, PROCESS_IF, CALL, PREFIX, OUTPUT, INPUT, OPERATION_CALL}
use Rattle.cb_amn_parse.specs.Lexemes.{Lexeme, Named, Said, Did}
use Rattle.cb_amn_parse.specs.Formulas.{term_out, formula_out, terms_out, names_out, condition_out}
use Rattle.cb_amn_parse.specs.Machines.{word_out, domain_out, machine_out}

abbrev pub event_out : RawEvent → List Lexeme
event_out (event.Output c ts f) = Named c ∷ terms_out ts ++ condition_out f ++ Did OUTPUT ∷ []
event_out (event.Input c xs f) = Named c ∷ names_out xs ++ condition_out f ++ Did INPUT ∷ []
event_out (event.Operation m o ts xs) = Named m ∷ Named o ∷ terms_out ts ++ names_out xs ++ Did OPERATION_CALL ∷ []

-- the first two operands of a chain are joined, and the others are appended one by one
abbrev mutual
  pub process_out : RawProcessTree → List Lexeme
  process_out (tree.Stop p) = word_out keyword.Stop p STOP
  process_out (tree.Skip p) = word_out keyword.SkipProcess p SKIP_PROCESS
  process_out (tree.Call c) = Named c.name ∷ terms_out c.arguments ++ Did CALL ∷ []
  process_out (tree.If p f a b) = Said (Keyword keyword.If) p ∷ formula_out f ++ process_out a ++ process_out b ++ Did PROCESS_IF ∷ []
  process_out (tree.Prefix e a) = event_out e ++ process_out a ++ Did PREFIX ∷ []
  process_out (tree.External ps) = operands_out ps ++ Did EXTERNAL ∷ []
  process_out (tree.Internal ps) = operands_out ps ++ Did INTERNAL ∷ []

  pub operands_out : RawProcesses → List Lexeme
  operands_out tree.NoOperand = []
  operands_out (tree.Operand p ps) = process_out p ++ second_out ps

  pub second_out : RawProcesses → List Lexeme
  second_out tree.NoOperand = []
  second_out (tree.Operand p ps) = process_out p ++ Did FIRST_TWO ∷ others_out ps

  pub others_out : RawProcesses → List Lexeme
  others_out tree.NoOperand = []
  others_out (tree.Operand p ps) = process_out p ++ Did APPEND_PROCESS ∷ others_out ps

abbrev pub chain_out : List RawProcessTree → List Lexeme
chain_out ps = operands_out (raw_processes ps)

abbrev pub parameter_out : RawParam → List Lexeme
parameter_out (param.Member x d) = Named x ∷ domain_out d ++ Did PARAMETER_IN ∷ []
parameter_out (param.Subset x d) = Named x ∷ domain_out d ++ Did PARAMETER_SUBSET ∷ []

abbrev pub parameter_entry : RawParam → List Lexeme
parameter_entry p = parameter_out p ++ Did APPEND_PARAMETER ∷ []

abbrev pub parameters_out : List RawParam → List Lexeme
parameters_out ps = Did NO_PARAMETERS ∷ flat_map parameter_entry ps

abbrev pub definition_entry : RawDefinition → List Lexeme
definition_entry d = Named d.name ∷ parameters_out d.parameters ++ condition_out d.invariant ++ process_out d.process ++ Did APPEND_DEFINITION ∷ []

abbrev pub definitions_out : List RawDefinition → List Lexeme
definitions_out ds = Did NO_DEFINITIONS ∷ flat_map definition_entry ds

abbrev pub controller_out : RawController → List Lexeme
controller_out c =
    Named c.name ∷ names_out c.machines ++ Named c.start.name ∷ terms_out c.start.arguments ++ definitions_out c.definitions
    ++ Did CONTROLLER ∷ []

abbrev pub controller_entry : RawController → List Lexeme
controller_entry c = controller_out c ++ Did APPEND_CONTROLLER ∷ []

abbrev pub controllers_out : List RawController → List Lexeme
controllers_out cs = Did NO_CONTROLLERS ∷ flat_map controller_entry cs

abbrev pub channel_entry : RawChannel → List Lexeme
channel_entry c = Named c.name ∷ names_out c.values ++ condition_out c.condition ++ Did APPEND_CHANNEL ∷ []

abbrev pub channels_out : List RawChannel → List Lexeme
channels_out cs = Did NO_CHANNELS ∷ flat_map channel_entry cs

abbrev pub machine_entry : RawMachine → List Lexeme
machine_entry m = machine_out m ++ Did APPEND_MACHINE ∷ []

abbrev pub machines_out : List RawMachine → List Lexeme
machines_out ms = Did NO_MACHINES ∷ flat_map machine_entry ms

-- with no order there are machines alone
abbrev pub rest_out : RawText → Option (List RawName) → List Lexeme
rest_out t None = Did MACHINES_ALONE ∷ []
rest_out t (Some order) = channels_out t.channels ++ controllers_out t.controllers ++ names_out order ++ Did SYSTEM ∷ []

abbrev pub text_out : RawText → List Lexeme
text_out t = machines_out t.machines ++ rest_out t t.order
