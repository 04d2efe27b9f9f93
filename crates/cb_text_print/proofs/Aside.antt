-- What is written for a text with its places set aside is what is written for the text, places aside.
use Rattle.std.proofs.Common.{◌≡◌, List, [], ◌∷◌, refl, arith}
use Rattle.std.specs.Prelude.{Option, Some, None, map}
use Rattle.std.specs.List.{flat_map}
use Rattle.cb_lex.specs.declared.token.Sort.TheVariants.{Keyword}
use Rattle.cb_lex.specs.declared.token.Keyword.TheVariants as keyword
use Rattle.cb_lex.specs.declared.raw.domain.RawBound.{RawBound}
use Rattle.cb_lex.specs.declared.raw.domain.RawEnd.{RawEnd}
use Rattle.cb_lex.specs.declared.raw.domain.RawEnd.TheVariants as end
use Rattle.cb_lex.specs.declared.raw.domain.RawDomain.{RawDomain}
use Rattle.cb_lex.specs.declared.raw.domain.RawDomain.TheVariants as domain
use Rattle.cb_lex.specs.declared.raw.domain.RawParam.{RawParam}
use Rattle.cb_lex.specs.declared.raw.domain.RawParam.TheVariants as param
use Rattle.cb_lex.specs.declared.raw.event.RawEvent.{RawEvent}
use Rattle.cb_lex.specs.declared.raw.event.RawEvent.TheVariants as event
use Rattle.cb_lex.specs.declared.raw.name.RawName.{RawName}
use Rattle.cb_lex.specs.declared.raw.text.RawChannel.{RawChannel}
use Rattle.cb_lex.specs.declared.raw.text.RawController.{RawController}
use Rattle.cb_lex.specs.declared.raw.text.RawDefinition.{RawDefinition}
use Rattle.cb_lex.specs.declared.raw.text.RawMachine.{RawMachine}
use Rattle.cb_lex.specs.declared.raw.text.RawText.{RawText}
use Rattle.cb_lex.specs.RawTermTree.{RawTermTree, RawFormulaTree, raw_terms}
use Rattle.cb_lex.specs.RawProcessTree.{RawProcessTree, RawProcesses}
use Rattle.cb_lex.specs.RawProcessTree as tree
use Rattle.cb_grammar.specs.declared.actions.TheConstants.{NO_MACHINES, APPEND_MACHINE, NO_CONTROLLERS, APPEND_CONTROLLER, SYSTEM, NO_CHANNELS, APPEND_CHANNEL, CONTROLLER, NO_PARAMETERS, APPEND_PARAMETER, PARAMETER_IN, PARAMETER_SUBSET, NO_DEFINITIONS, APPEND_DEFINITION, FIRST_TWO, APPEND_PROCESS, EXTERNAL, INTERNAL, PROCESS_IF, CALL, PREFIX, OUTPUT, INPUT, OPERATION_CALL, NO_TERMS, APPEND_TERM, NO_NAMES, APPEND_NAME, SOME_CONDITION, RANGE}
use Rattle.cb_amn_parse.specs.Lexemes.{Named, Said, Did}
use Rattle.cb_amn_parse.specs.Formulas.{listed_out, terms_out, name_entry, names_out, condition_out}
use Rattle.cb_amn_parse.specs.Machines.{end_out, bound_action, bound_out, domain_out}
use Rattle.cb_amn_parse.specs.Processes.{event_out, process_out, operands_out, second_out, others_out, parameter_out, parameter_entry, definition_entry, controller_out, controller_entry, channel_entry, machine_entry, rest_out, text_out}
use Rattle.cb_csp_parse.specs.Laws.{StandsAlone}
use Rattle.cb_csp_parse.proofs.TextsAgain.{short, process_shorts, operand_shorts, definition_shorts, controller_shorts}
use Rattle.cb_amn_print.specs.Unplaced.{unplaced_term, unplaced_names, unplaced_condition, unplaced_end, unplaced_bound, unplaced_domain, unplaced_machine}
use Rattle.cb_amn_print.proofs.OutAside.{Aside, join, first, done, term_aside, formula_aside, machine_aside}
use Rattle.cb_text_print.specs.Unplaced.{unplaced_event, unplaced_process, unplaced_processes, unplaced_parameter, unplaced_definition, unplaced_controller, unplaced_channel, unplaced_order, unplaced_text}

-- ---- names, terms and domains

name_entries_aside : (xs : List RawName) → Aside (flat_map name_entry xs) (flat_map name_entry (unplaced_names xs))
name_entries_aside [] = record { is = refl }
name_entries_aside (x ∷ xs) = first (Named x) (first (Did APPEND_NAME) (name_entries_aside xs))

names_aside : (xs : List RawName) → Aside (names_out xs) (names_out (unplaced_names xs))
names_aside xs = first (Did NO_NAMES) (name_entries_aside xs)

list_aside : (ts : List RawTermTree) → Aside (listed_out (raw_terms ts)) (listed_out (raw_terms (map unplaced_term ts)))
list_aside [] = record { is = refl }
list_aside (t ∷ ts) = join (term_aside t) (first (Did APPEND_TERM) (list_aside ts))

terms_aside : (ts : List RawTermTree) → Aside (terms_out ts) (terms_out (map unplaced_term ts))
terms_aside ts = first (Did NO_TERMS) (list_aside ts)

condition_aside : (c : Option RawFormulaTree) → Aside (condition_out c) (condition_out (unplaced_condition c))
condition_aside None = record { is = refl }
condition_aside (Some f) = join (formula_aside f) (done SOME_CONDITION)

end_aside : (e : RawEnd) → Aside (end_out e) (end_out (unplaced_end e))
end_aside (end.Number n p) = record { is = refl }
end_aside (end.MaxInt p) = record { is = refl }
end_aside (end.MinInt p) = record { is = refl }
end_aside (end.Name x) = record { is = refl }

bound_aside : (b : RawBound) → Aside (bound_out b) (bound_out (unplaced_bound b))
bound_aside b = join (end_aside b.end) (done (bound_action b.minus))

domain_aside : (d : RawDomain) → Aside (domain_out d) (domain_out (unplaced_domain d))
domain_aside (domain.Range low high) = join (join (bound_aside low) (bound_aside high)) (done RANGE)
domain_aside (domain.Nat p) = record { is = refl }
domain_aside (domain.Nat1 p) = record { is = refl }
domain_aside (domain.Int p) = record { is = refl }
domain_aside (domain.Truths p) = record { is = refl }
domain_aside (domain.Name x) = record { is = refl }

-- ---- processes

event_aside : (e : RawEvent) → Aside (event_out e) (event_out (unplaced_event e))
event_aside (event.Output c ts f) = join (join (first (Named c) (terms_aside ts)) (condition_aside f)) (done OUTPUT)
event_aside (event.Input c xs f) = join (join (first (Named c) (names_aside xs)) (condition_aside f)) (done INPUT)
event_aside (event.Operation m o ts xs) = join (join (first (Named m) (first (Named o) (terms_aside ts))) (names_aside xs)) (done OPERATION_CALL)

mutual
  process_aside : (p : RawProcessTree) → Aside (process_out p) (process_out (unplaced_process p))
  process_aside (tree.Stop p) = record { is = refl }
  process_aside (tree.Skip p) = record { is = refl }
  process_aside (tree.Call c) = join (first (Named c.name) (terms_aside c.arguments)) (done CALL)
  process_aside (tree.If p f a b) = join (join (join (first (Said (Keyword keyword.If) p) (formula_aside f)) (process_aside a)) (process_aside b)) (done PROCESS_IF)
  process_aside (tree.Prefix e a) = join (join (event_aside e) (process_aside a)) (done PREFIX)
  process_aside (tree.External ps) = join (operands_aside ps) (done EXTERNAL)
  process_aside (tree.Internal ps) = join (operands_aside ps) (done INTERNAL)

  operands_aside : (ps : RawProcesses) → Aside (operands_out ps) (operands_out (unplaced_processes ps))
  operands_aside tree.NoOperand = record { is = refl }
  operands_aside (tree.Operand p ps) = join (process_aside p) (second_aside ps)

  second_aside : (ps : RawProcesses) → Aside (second_out ps) (second_out (unplaced_processes ps))
  second_aside tree.NoOperand = record { is = refl }
  second_aside (tree.Operand p ps) = join (process_aside p) (first (Did FIRST_TWO) (others_aside ps))

  others_aside : (ps : RawProcesses) → Aside (others_out ps) (others_out (unplaced_processes ps))
  others_aside tree.NoOperand = record { is = refl }
  others_aside (tree.Operand p ps) = join (process_aside p) (first (Did APPEND_PROCESS) (others_aside ps))

-- ---- channels and controllers

parameter_aside : (p : RawParam) → Aside (parameter_out p) (parameter_out (unplaced_parameter p))
parameter_aside (param.Member x d) = join (first (Named x) (domain_aside d)) (done PARAMETER_IN)
parameter_aside (param.Subset x d) = join (first (Named x) (domain_aside d)) (done PARAMETER_SUBSET)

parameters_aside : (ps : List RawParam) → Aside (flat_map parameter_entry ps) (flat_map parameter_entry (map unplaced_parameter ps))
parameters_aside [] = record { is = refl }
parameters_aside (p ∷ ps) = join (join (parameter_aside p) (done APPEND_PARAMETER)) (parameters_aside ps)

definition_aside : (d : RawDefinition) → Aside (definition_entry d) (definition_entry (unplaced_definition d))
definition_aside d = join (join (join (first (Named d.name) (first (Did NO_PARAMETERS) (parameters_aside d.parameters))) (condition_aside d.invariant)) (process_aside d.process)) (done APPEND_DEFINITION)

definitions_aside : (ds : List RawDefinition) → Aside (flat_map definition_entry ds) (flat_map definition_entry (map unplaced_definition ds))
definitions_aside [] = record { is = refl }
definitions_aside (d ∷ ds) = join (definition_aside d) (definitions_aside ds)

controller_aside : (c : RawController) → Aside (controller_out c) (controller_out (unplaced_controller c))
controller_aside c =
    join (join (join (first (Named c.name) (names_aside c.machines)) (first (Named c.start.name) (terms_aside c.start.arguments))) (first (Did NO_DEFINITIONS) (definitions_aside c.definitions))) (done CONTROLLER)

controllers_aside : (cs : List RawController) → Aside (flat_map controller_entry cs) (flat_map controller_entry (map unplaced_controller cs))
controllers_aside [] = record { is = refl }
controllers_aside (c ∷ cs) = join (join (controller_aside c) (done APPEND_CONTROLLER)) (controllers_aside cs)

channels_aside : (cs : List RawChannel) → Aside (flat_map channel_entry cs) (flat_map channel_entry (map unplaced_channel cs))
channels_aside [] = record { is = refl }
channels_aside (c ∷ cs) = join (join (join (first (Named c.name) (names_aside c.values)) (condition_aside c.condition)) (done APPEND_CHANNEL)) (channels_aside cs)

machines_aside : (ms : List RawMachine) → Aside (flat_map machine_entry ms) (flat_map machine_entry (map unplaced_machine ms))
machines_aside [] = record { is = refl }
machines_aside (m ∷ ms) = join (join (machine_aside m) (done APPEND_MACHINE)) (machines_aside ms)

-- ---- texts

rest_aside : (t : RawText) (o : Option (List RawName)) → Aside (rest_out t o) (rest_out (unplaced_text t) (unplaced_order o))
rest_aside t None = record { is = refl }
rest_aside t (Some order) = join (join (join (first (Did NO_CHANNELS) (channels_aside t.channels)) (first (Did NO_CONTROLLERS) (controllers_aside t.controllers))) (names_aside order)) (done SYSTEM)

pub text_aside : (t : RawText) → Aside (text_out t) (text_out (unplaced_text t))
text_aside t = join (first (Did NO_MACHINES) (machines_aside t.machines)) (rest_aside t t.order)

-- ---- what else stays

short_stays : (ps : RawProcesses) → short (unplaced_processes ps) ≡ short ps
short_stays tree.NoOperand = refl
short_stays (tree.Operand p tree.NoOperand) = refl
short_stays (tree.Operand p (tree.Operand q ps)) = refl

mutual
  shorts_stay : (p : RawProcessTree) → process_shorts (unplaced_process p) ≡ process_shorts p
  shorts_stay (tree.Stop p) = refl
  shorts_stay (tree.Skip p) = refl
  shorts_stay (tree.Call c) = refl
  shorts_stay (tree.If p f a b) = let x = shorts_stay a in let y = shorts_stay b in omega (arith, x, y)
  shorts_stay (tree.Prefix e a) = shorts_stay a
  shorts_stay (tree.External ps) = let x = short_stays ps in let y = operands_stay ps in omega (arith, x, y)
  shorts_stay (tree.Internal ps) = let x = short_stays ps in let y = operands_stay ps in omega (arith, x, y)

  operands_stay : (ps : RawProcesses) → operand_shorts (unplaced_processes ps) ≡ operand_shorts ps
  operands_stay tree.NoOperand = refl
  operands_stay (tree.Operand p ps) = let x = shorts_stay p in let y = operands_stay ps in omega (arith, x, y)

definitions_stay : (ds : List RawDefinition) → definition_shorts (map unplaced_definition ds) ≡ definition_shorts ds
definitions_stay [] = refl
definitions_stay (d ∷ ds) = let x = shorts_stay d.process in let y = definitions_stay ds in omega (arith, x, y)

pub controllers_stay : (cs : List RawController) → controller_shorts (map unplaced_controller cs) ≡ controller_shorts cs
controllers_stay [] = refl
controllers_stay (c ∷ cs) = let x = definitions_stay c.definitions in let y = controllers_stay cs in omega (arith, x, y)

pub alone_stays : (t : RawText) → StandsAlone t → StandsAlone (unplaced_text t)
alone_stays t a e =
    let q = a (go t.order e) in
    (rw (q.0) refl, rw (q.1) refl)
  where
    go : (o : Option (List RawName)) → unplaced_order o ≡ None → o ≡ None
    go None e = refl
    go (Some xs) e = absurd (cc)
