-- The printed text of channels, controllers and whole texts.
use Rattle.std.specs.Prelude.{ℕ, Bool, true, false, not, List, [], ◌∷◌, ◌++◌, Option, Some, None, codes}
use Rattle.std.specs.List.{flat_map}
use Rattle.cb_lex.specs.declared.raw.domain.RawParam.{RawParam}
use Rattle.cb_lex.specs.declared.raw.domain.RawParam.TheVariants as param
use Rattle.cb_lex.specs.declared.raw.name.RawName.{RawName}
use Rattle.cb_lex.specs.declared.raw.text.RawChannel.{RawChannel}
use Rattle.cb_lex.specs.declared.raw.text.RawController.{RawController}
use Rattle.cb_lex.specs.declared.raw.text.RawDefinition.{RawDefinition}
use Rattle.cb_lex.specs.declared.raw.text.RawText.{RawText}
use Rattle.cb_lex.specs.RawTermTree.{RawFormulaTree}
use Rattle.cb_shapes.specs.Full.{some}
use Rattle.cb_amn_print.specs.Tokens.{name_text, only_if}
use Rattle.cb_amn_print.specs.Formulas.{formula_text}
use Rattle.cb_amn_print.specs.Machines.{names_text, domain_text, part_text, machine_text}
use Rattle.cb_text_print.specs.Processes.{call_text, process_text}

-- ---- channels

abbrev pub where_text : Option RawFormulaTree → List ℕ
where_text None = []
where_text (Some f) = codes "WHERE " ++ formula_text false f

abbrev pub channel_text : RawChannel → List ℕ
channel_text c = name_text c.name ++ codes "( " ++ names_text true c.values ++ codes ") " ++ where_text c.condition

-- the channels with semicolons between them
abbrev pub each_channel_text : Bool → List RawChannel → List ℕ
each_channel_text first [] = []
each_channel_text first (c ∷ cs) = only_if (not first) (codes "; ") ++ channel_text c ++ each_channel_text false cs

-- with no channel there is no CHANNELS
abbrev pub channels_text : List RawChannel → List ℕ
channels_text cs = part_text (codes "CHANNELS ") each_channel_text cs ++ only_if (some cs) (codes "END ")

-- ---- definitions

abbrev pub parameter_text : RawParam → List ℕ
parameter_text (param.Member x d) = name_text x ++ codes ": " ++ domain_text d
parameter_text (param.Subset x d) = name_text x ++ codes "<: " ++ domain_text d

-- the parameters with commas between them
abbrev pub each_parameter_text : Bool → List RawParam → List ℕ
each_parameter_text first [] = []
each_parameter_text first (p ∷ ps) = only_if (not first) (codes ", ") ++ parameter_text p ++ each_parameter_text false ps

abbrev pub parameters_text : List RawParam → List ℕ
parameters_text ps = part_text (codes "( ") each_parameter_text ps ++ only_if (some ps) (codes ") ")

abbrev pub invariant_text : Option RawFormulaTree → List ℕ
invariant_text None = []
invariant_text (Some f) = codes "INV ( " ++ formula_text false f ++ codes ") "

abbrev pub definition_text : RawDefinition → List ℕ
definition_text d = name_text d.name ++ parameters_text d.parameters ++ invariant_text d.invariant ++ codes "= " ++ process_text false d.process

-- the definitions with semicolons between them
abbrev pub definitions_text : Bool → List RawDefinition → List ℕ
definitions_text first [] = []
definitions_text first (d ∷ ds) = only_if (not first) (codes "; ") ++ definition_text d ++ definitions_text false ds

-- ---- controllers and texts

-- all before the definitions
unfoldable pub head_text : RawController → List ℕ
head_text c = codes "CONTROLLER " ++ name_text c.name ++ part_text (codes "MACHINES ") names_text c.machines ++ codes "START " ++ call_text c.start

abbrev pub controller_text : RawController → List ℕ
controller_text c = head_text c ++ codes "PROCESSES " ++ definitions_text true c.definitions ++ codes "END "

abbrev pub system_text : RawText → List RawName → List ℕ
system_text t order = channels_text t.channels ++ flat_map controller_text t.controllers ++ codes "SYSTEM " ++ names_text true order ++ codes "END "

-- with no order there are machines alone
abbrev pub rest_text : RawText → Option (List RawName) → List ℕ
rest_text t None = []
rest_text t (Some order) = system_text t order

abbrev pub text_text : RawText → List ℕ
text_text t = flat_map machine_text t.machines ++ rest_text t t.order
