-- What is known of the values of channels, the parameters and results of operations, and the parameters of definitions.
use Rattle.std.specs.Prelude.{ℕ, List, [], ◌∷◌, map, Option, Some, None, slice_get}
use Rattle.cb_lex.specs.declared.raw.domain.RawDomain.{RawDomain}
use Rattle.cb_lex.specs.declared.raw.domain.RawDomain.TheVariants as raw_domain
use Rattle.cb_lex.specs.declared.raw.domain.RawParam.{RawParam}
use Rattle.cb_lex.specs.declared.raw.domain.RawParam.TheVariants as param
use Rattle.cb_lex.specs.declared.raw.name.RawName.{RawName}
use Rattle.cb_lex.specs.declared.raw.text.RawChannel.{RawChannel}
use Rattle.cb_lex.specs.declared.raw.text.RawDefinition.{RawDefinition}
use Rattle.cb_lex.specs.declared.raw.text.RawMachine.{RawMachine}
use Rattle.cb_lex.specs.declared.raw.text.RawOperation.{RawOperation}
use Rattle.cb_lex.specs.RawSubstTree.{RawSubstTree, Skip, Assign, Among, If, IfElse, Choice, Any, Parallel, RawSubsts, NoSide, Side}
use Rattle.cb_spec.specs.Forms.{Form, Number, Truth, Element, Numbers, TruthSet, Elements, Empty}
use Rattle.cb_spec.specs.TypedSubsts.{either_form, result_form}
use Rattle.cb_forms.specs.declared.form.Form.{Form as Known}
use Rattle.cb_forms.specs.declared.form.Form.TheVariants as known
use Rattle.cb_forms.specs.Find.{found, put}
use Rattle.cb_judge.specs.declared.domain.Choice.{Choice as Chosen}
use Rattle.cb_judge.specs.declared.names.View.{View}
use Rattle.cb_judge.specs.Meanings.{Names, known_set}
use Rattle.cb_judge.specs.Choices.{typing_in, form_or_nought, domain_in, bound_of, subset_of, element_sets_of}
use Rattle.cb_judge.specs.Judged.{form_in}
use Rattle.cb_judge.specs.Substs.{chosen_form, within}
use Rattle.cb_types.specs.declared.declare.Sort.TheVariants as sort
use Rattle.cb_types.specs.Declares.{Domains, domains_of, with_choice, declared, inner_view, machine_number, next}
use Rattle.cb_types.specs.MachineFaults.{inside_operation}
use Rattle.cb_text_laws.specs.TextNames.{channel_number, numbered}

-- the forms of names with these domains
abbrev pub forms_of : Domains → List RawName → List Known
forms_of ds xs = map (λ (x : RawName). form_or_nought (found x.text ds)) xs

-- ---- channels

abbrev pub value_domains : View → Names → RawChannel → Domains
value_domains v names c = domains_of v names c.condition

abbrev pub value_forms : View → Names → RawChannel → List Known
value_forms v names c = forms_of (value_domains v names c) c.values

-- the names in a channel's condition
abbrev pub inside_channel : View → Names → RawChannel → Names
inside_channel v names c = declared sort.Parameter [] (value_domains v names c) 0 names c.values

abbrev pub channel_of : List RawChannel → Names → RawName → Option RawChannel
channel_of cs names x = numbered cs (channel_number (found x.text names))

-- ---- definitions

-- the domain that is written after `<:`
abbrev pub subset_in : View → Names → RawDomain → Option Chosen
subset_in v names (raw_domain.Range low high) = subset_of (bound_of v names low) (bound_of v names high)
subset_in v names (raw_domain.Name x) = element_sets_of (known_set v (found x.text names))
subset_in v names d = None

abbrev pub param_name : RawParam → RawName
param_name (param.Member x d) = x
param_name (param.Subset x d) = x

abbrev pub param_domain : RawParam → RawDomain
param_domain (param.Member x d) = d
param_domain (param.Subset x d) = d

abbrev pub param_choice : View → Names → RawParam → Option Chosen
param_choice v names (param.Member x d) = domain_in v names d
param_choice v names (param.Subset x d) = subset_in v names d

abbrev pub parameters_from : View → Names → Domains → List RawParam → Domains
parameters_from v names ds [] = ds
parameters_from v names ds (p ∷ ps) = parameters_from v names (with_choice (param_name p).text (param_choice v names p) ds) ps

-- the domains of a definition's parameters
abbrev pub parameter_domains : View → Names → RawDefinition → Domains
parameter_domains v names d = parameters_from v names [] d.parameters

abbrev pub parameter_names : RawDefinition → List RawName
parameter_names d = map param_name d.parameters

abbrev pub parameter_forms : View → Names → RawDefinition → List Known
parameter_forms v names d = forms_of (parameter_domains v names d) (parameter_names d)

abbrev pub inside_definition : View → Names → RawDefinition → Names
inside_definition v names d = declared sort.Parameter [] (parameter_domains v names d) 0 names (parameter_names d)

-- definitions by their names: the number, and the forms of the parameters
abbrev pub Definitions : Type 0
Definitions = List (List ℕ × (ℕ × List Known))

abbrev pub definitions_from : View → Names → ℕ → List RawDefinition → Definitions
definitions_from v names j [] = []
definitions_from v names j (d ∷ ds) = (d.name.text, (j, parameter_forms v names d)) ∷ definitions_from v names (next j) ds

abbrev pub parameters_of : Option (ℕ × List Known) → List Known
parameters_of None = []
parameters_of (Some d) = d.1

-- ---- operations

-- what is assigned to names so far
abbrev pub Assigned : Type 0
Assigned = List (List ℕ × Form)

abbrev pub form_after : Option Form → Form → Form
form_after None f = f
form_after (Some g) f = either_form g f

abbrev pub assigned_next : List ℕ → Option Form → Assigned → Assigned
assigned_next x None given = given
assigned_next x (Some f) given = put x (form_after (found x given) f) given

module _ (v : View) where
  abbrev mutual
    -- each name that is assigned to with the form of what may be assigned
    pub assigned_after : Names → Assigned → RawSubstTree → Assigned
    assigned_after names given Skip = given
    assigned_after names given (Assign x t) = assigned_next x.text (form_in v names t) given
    assigned_after names given (Among x d) = assigned_next x.text (chosen_form (domain_in v names d)) given
    assigned_after names given (If f s) = assigned_after names given s
    assigned_after names given (IfElse f s t) = assigned_after names (assigned_after names given s) t
    assigned_after names given (Choice ss) = assigned_after_sides names given ss
    assigned_after names given (Any x f s) = assigned_after (within x (typing_in v names x.text f) names) given s
    assigned_after names given (Parallel s t) = assigned_after names (assigned_after names given s) t

    pub assigned_after_sides : Names → Assigned → RawSubsts → Assigned
    assigned_after_sides names given NoSide = given
    assigned_after_sides names given (Side s ss) = assigned_after_sides names (assigned_after names given s) ss

-- what is kept of a form
abbrev pub known_of : Form → Known
known_of (Number lo hi) = known.Number (record { lo = lo; hi = hi })
known_of Truth = known.Truth
known_of (Element set) = known.Element set
known_of (Numbers lo hi) = known.Numbers (record { lo = lo; hi = hi })
known_of TruthSet = known.TruthSet
known_of (Elements set) = known.Elements set
known_of Empty = known.Empty

-- an operation given a controller knows it: the machine's number, its own, the forms of its parameters and its results
pub record Callee : Type 0 where
  pub machine : ℕ
  pub operation : ℕ
  pub parameters : List Known
  pub results : List Known

abbrev pub operation_domains : Names → Names → ℕ → RawMachine → RawOperation → Domains
operation_domains before names owner m o = domains_of (inner_view before owner m) names o.precondition

abbrev pub operation_assigned : Names → Names → ℕ → RawMachine → RawOperation → Assigned
operation_assigned before names owner m o =
    assigned_after (inner_view before owner m) (inside_operation (operation_domains before names owner m o) o names) [] o.body

abbrev pub result_forms : Names → Names → ℕ → RawMachine → RawOperation → List Known
result_forms before names owner m o =
    map (λ (x : RawName). known_of (result_form (found x.text (operation_assigned before names owner m o)))) o.results

-- operations by their names, each with its number
abbrev pub operations_from : ℕ → List RawOperation → List (List ℕ × (ℕ × RawOperation))
operations_from j [] = []
operations_from j (o ∷ os) = (o.name.text, (j, o)) ∷ operations_from (next j) os

abbrev pub callee_of : Names → Names → ℕ → RawMachine → Option (ℕ × RawOperation) → Option Callee
callee_of before names owner m None = None
callee_of before names owner m (Some o) = Some (record {
  machine = owner;
  operation = o.0;
  parameters = forms_of (operation_domains before names owner m o.1) o.1.parameters;
  results = result_forms before names owner m o.1;
})

abbrev pub callee_in : Names → Names → ℕ → Option RawMachine → List ℕ → Option Callee
callee_in before names owner None x = None
callee_in before names owner (Some m) x = callee_of before names owner m (found x (operations_from 0 m.operations))

abbrev pub callee_at : Names → Names → List RawMachine → Option ℕ → List ℕ → Option Callee
callee_at before names ms None x = None
callee_at before names ms (Some k) x = callee_in before names k (slice_get ms k) x

-- the operation of the machine with these names. `before` are the names that stand before variables are known, `globals` those of
-- the whole text, and `names` those at the place
abbrev pub callee : Names → Names → List RawMachine → Names → RawName → RawName → Option Callee
callee before globals ms names m o = callee_at before globals ms (machine_number (found m.text names)) o.text
