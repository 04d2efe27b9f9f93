-- The values on the stack: what was written for them, and their kinds.
use Rattle.std.specs.Prelude.{◌≡◌, ℕ, Bool, true, false, List, [], ◌∷◌, ◌++◌, map, reverse}
use Rattle.std.specs.List.{flat_map}
use Rattle.cb_lex.specs.declared.token.Sort.TheVariants as sort
use Rattle.cb_lex.specs.declared.token.Keyword.{Keyword}
use Rattle.cb_lex.specs.declared.token.Keyword.TheVariants as keyword
use Rattle.cb_lex.specs.declared.token.Sign.TheVariants as sign
use Rattle.cb_grammar.specs.Signatures.{signatures, name_kind, number_kind, limit_kind, truth_kind, set_kind, relation_kind, card_kind, bool_kind, brace_kind, stop_kind, skip_kind, if_kind, initialisation_kind, start_kind, text_kind, machines_kind, machine_kind, channels_kind, controllers_kind, controller_kind, names_kind, sets_kind, literal_kind, properties_kind, state_kind, operations_kind, substitution_kind, sides_kind, domain_kind, bound_kind, end_kind, condition_kind, parameter_kind, parameters_kind, definitions_kind, process_kind, chain_kind, event_kind, formula_kind, term_kind, terms_kind, proofs_kind, obligation_kind, node_kind, nodes_kind, row_kind, rows_kind}
use Rattle.cb_amn_parse.specs.declared.value.Limit.{Limit}
use Rattle.cb_amn_parse.specs.declared.value.Limit.TheVariants as limit
use Rattle.cb_amn_parse.specs.declared.value.SetWord.{SetWord}
use Rattle.cb_amn_parse.specs.declared.value.SetWord.TheVariants as set
use Rattle.cb_amn_parse.specs.declared.value.Value.{Value}
use Rattle.cb_amn_parse.specs.declared.value.Value.TheVariants as value
use Rattle.cb_amn_parse.specs.Lexemes.{Lexeme, Named, Said, Did}
use Rattle.cb_amn_parse.specs.Words.{operator_sort, kind_of_operator, relation_sort}
use Rattle.cb_amn_parse.specs.Formulas.{term_out, formula_out, terms_out, names_out, condition_out}
use Rattle.cb_amn_parse.specs.Machines.{literal_out, end_out, bound_out, domain_out, subst_out, sides_out, sets_out, properties_out, state_out, operations_out, machine_out}
use Rattle.cb_amn_parse.specs.Processes.{text_out, machines_out, channels_out, controllers_out, controller_out, parameter_out, parameters_out, definitions_out, process_out, chain_out, event_out}
use Rattle.cb_amn_parse.specs.Proofs.{obligation_out, row_out, rows_out, node_out, nodes_out, proofs_out}

abbrev pub limit_keyword : Limit → Keyword
limit_keyword limit.MaxInt = keyword.MaxInt
limit_keyword limit.MinInt = keyword.MinInt

abbrev pub truth_keyword : Bool → Keyword
truth_keyword true = keyword.True
truth_keyword false = keyword.False

abbrev pub set_keyword : SetWord → Keyword
set_keyword set.Nat = keyword.Nat
set_keyword set.Nat1 = keyword.Nat1
set_keyword set.Int = keyword.Int
set_keyword set.Truths = keyword.Truths

-- what was written for a value
abbrev pub value_out : Value → List Lexeme
value_out (value.Name x) = Named x ∷ []
value_out (value.Number n p) = Said (sort.Number n) p ∷ []
value_out (value.Limit l p) = Said (sort.Keyword (limit_keyword l)) p ∷ []
value_out (value.Truth b p) = Said (sort.Keyword (truth_keyword b)) p ∷ []
value_out (value.SetWord s p) = Said (sort.Keyword (set_keyword s)) p ∷ []
value_out (value.Relation r p) = Said (relation_sort r) p ∷ []
value_out (value.Operator o p) = Said (operator_sort o) p ∷ []
value_out (value.Card p) = Said (sort.Keyword keyword.Card) p ∷ []
value_out (value.Bool p) = Said (sort.Keyword keyword.Bool) p ∷ []
value_out (value.Brace p) = Said (sort.Sign sign.OpenBrace) p ∷ []
value_out (value.Stop p) = Said (sort.Keyword keyword.Stop) p ∷ []
value_out (value.Skip p) = Said (sort.Keyword keyword.SkipProcess) p ∷ []
value_out (value.If p) = Said (sort.Keyword keyword.If) p ∷ []
value_out (value.Initialisation p) = Said (sort.Keyword keyword.Initialisation) p ∷ []
value_out (value.Start p) = Said (sort.Keyword keyword.Start) p ∷ []
value_out (value.Formula f) = formula_out f
value_out (value.Term t) = term_out t
value_out (value.Terms ts) = terms_out ts
value_out (value.Names xs) = names_out xs
value_out (value.Condition c) = condition_out c
value_out (value.Literal l) = literal_out l
value_out (value.End e) = end_out e
value_out (value.Bound b) = bound_out b
value_out (value.Domain d) = domain_out d
value_out (value.Subst s) = subst_out s
value_out (value.Sides ss) = sides_out ss
value_out (value.Sets ss) = sets_out ss
value_out (value.Properties ps) = properties_out ps
value_out (value.State s) = state_out s
value_out (value.Operations os) = operations_out os
value_out (value.Machine m) = machine_out m
value_out (value.Machines ms) = machines_out ms
value_out (value.Channels cs) = channels_out cs
value_out (value.Parameter p) = parameter_out p
value_out (value.Parameters ps) = parameters_out ps
value_out (value.Event e) = event_out e
value_out (value.Process p) = process_out p
value_out (value.Chain ps) = chain_out ps
value_out (value.Definitions ds) = definitions_out ds
value_out (value.Controller c) = controller_out c
value_out (value.Controllers cs) = controllers_out cs
value_out (value.Text t) = text_out t
value_out (value.Obligation o) = obligation_out o
value_out (value.Row r) = row_out r
value_out (value.Rows rs) = rows_out rs
value_out (value.Node c) = node_out c
value_out (value.Nodes cs) = nodes_out cs.items
value_out (value.Proofs ps) = proofs_out ps

abbrev pub kind_of : Value → ℕ
kind_of (value.Name x) = name_kind
kind_of (value.Number n p) = number_kind
kind_of (value.Limit l p) = limit_kind
kind_of (value.Truth b p) = truth_kind
kind_of (value.SetWord s p) = set_kind
kind_of (value.Relation r p) = relation_kind
kind_of (value.Operator o p) = kind_of_operator o
kind_of (value.Card p) = card_kind
kind_of (value.Bool p) = bool_kind
kind_of (value.Brace p) = brace_kind
kind_of (value.Stop p) = stop_kind
kind_of (value.Skip p) = skip_kind
kind_of (value.If p) = if_kind
kind_of (value.Initialisation p) = initialisation_kind
kind_of (value.Start p) = start_kind
kind_of (value.Formula f) = formula_kind
kind_of (value.Term t) = term_kind
kind_of (value.Terms ts) = terms_kind
kind_of (value.Names xs) = names_kind
kind_of (value.Condition c) = condition_kind
kind_of (value.Literal l) = literal_kind
kind_of (value.End e) = end_kind
kind_of (value.Bound b) = bound_kind
kind_of (value.Domain d) = domain_kind
kind_of (value.Subst s) = substitution_kind
kind_of (value.Sides ss) = sides_kind
kind_of (value.Sets ss) = sets_kind
kind_of (value.Properties ps) = properties_kind
kind_of (value.State s) = state_kind
kind_of (value.Operations os) = operations_kind
kind_of (value.Machine m) = machine_kind
kind_of (value.Machines ms) = machines_kind
kind_of (value.Channels cs) = channels_kind
kind_of (value.Parameter p) = parameter_kind
kind_of (value.Parameters ps) = parameters_kind
kind_of (value.Event e) = event_kind
kind_of (value.Process p) = process_kind
kind_of (value.Chain ps) = chain_kind
kind_of (value.Definitions ds) = definitions_kind
kind_of (value.Controller c) = controller_kind
kind_of (value.Controllers cs) = controllers_kind
kind_of (value.Text t) = text_kind
kind_of (value.Obligation o) = obligation_kind
kind_of (value.Row r) = row_kind
kind_of (value.Rows rs) = rows_kind
kind_of (value.Node c) = node_kind
kind_of (value.Nodes cs) = nodes_kind
kind_of (value.Proofs ps) = proofs_kind

-- what was written for all values on the stack, the top being the last
abbrev pub stack_out : List Value → List Lexeme
stack_out = flat_map value_out

-- the kinds on the stack, the top first
abbrev pub kinds_of : List Value → List ℕ
kinds_of stack = map kind_of (reverse stack)

-- the top is of the kind
abbrev pub HasTop : List Value → ℕ → Type 0
HasTop stack k = (r : List ℕ) × (kinds_of stack ≡ k ∷ r)

-- what the action takes is on top
abbrev pub Takes : List Value → ℕ → Type 0
Takes stack a = (r : List ℕ) × (kinds_of stack ≡ (signatures.action a).takes ++ r)

-- what the action takes gives way to what it leaves
abbrev pub Turns : List Value → List Value → ℕ → Type 0
Turns old new a = (r : List ℕ) → kinds_of old ≡ (signatures.action a).takes ++ r → kinds_of new ≡ (signatures.action a).leaves ++ r
