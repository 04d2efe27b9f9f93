-- What is written for a text builds it again, where each chain has two operands or more.
use Rattle.std.proofs.Common.{◌≡◌, ℕ, ◌+◌, Bool, true, false, List, [], ◌∷◌, ◌++◌, refl, ap, append_assoc, append-nil, cond, eqb, if◌then◌else◌, arith}
use Rattle.std.specs.Prelude.{Option, Some, None}
use Rattle.std.specs.List.{flat_map}
use Rattle.cb_lex.specs.declared.token.Sort.TheVariants.{Keyword}
use Rattle.cb_lex.specs.declared.token.Keyword.TheVariants as keyword
use Rattle.cb_lex.specs.declared.raw.domain.RawDomain.{RawDomain}
use Rattle.cb_lex.specs.declared.raw.domain.RawParam.{RawParam}
use Rattle.cb_lex.specs.declared.raw.domain.RawParam.TheVariants as param
use Rattle.cb_lex.specs.declared.raw.event.RawEvent.{RawEvent}
use Rattle.cb_lex.specs.declared.raw.event.RawEvent.TheVariants as event
use Rattle.cb_lex.specs.declared.raw.name.RawName.{RawName}
use Rattle.cb_lex.specs.declared.raw.text.RawText.{RawText}
use Rattle.cb_lex.specs.declared.raw.text.RawMachine.{RawMachine}
use Rattle.cb_lex.specs.declared.raw.text.RawChannel.{RawChannel}
use Rattle.cb_lex.specs.declared.raw.text.RawController.{RawController}
use Rattle.cb_lex.specs.declared.raw.text.RawDefinition.{RawDefinition}
use Rattle.cb_lex.specs.RawTermTree.{RawTermTree, RawFormulaTree}
use Rattle.cb_lex.specs.RawProcessTree.{RawProcessTree, RawProcesses, raw_processes}
use Rattle.cb_lex.specs.RawProcessTree as tree
use Rattle.cb_grammar.specs.declared.actions.TheConstants.{NO_MACHINES, APPEND_MACHINE, MACHINES_ALONE, NO_CONTROLLERS, APPEND_CONTROLLER, SYSTEM, NO_CHANNELS, APPEND_CHANNEL, CONTROLLER, NO_PARAMETERS, APPEND_PARAMETER, PARAMETER_IN, PARAMETER_SUBSET, NO_DEFINITIONS, APPEND_DEFINITION, FIRST_TWO, APPEND_PROCESS, EXTERNAL, INTERNAL, STOP, SKIP_PROCESS, PROCESS_IF, CALL, PREFIX, OUTPUT, INPUT}
use Rattle.cb_amn_parse.specs.Lexemes.{Lexeme, Named, Said, Did}
use Rattle.cb_amn_parse.specs.Formulas.{formula_out, terms_out, names_out, condition_out}
use Rattle.cb_amn_parse.specs.Machines.{domain_out, machine_out}
use Rattle.cb_amn_parse.specs.Processes.{process_out, operands_out, others_out, event_out, parameter_out, parameter_entry, parameters_out, definition_entry, controller_out, controller_entry, channel_entry, machine_entry, machines_out, rest_out, text_out}
use Rattle.cb_amn_parse.proofs.Building.{Built, Word, Formula, Terms, Names, Condition, Domain, Machine, told}
use Rattle.cb_csp_parse.specs.Laws.{StandsAlone}
use Rattle.cb_csp_parse.proofs.MachinesAgain.{is_new_lexeme, go, go_formula, go_terms, go_names, go_condition, go_domain, go_machine}

pub data Made : Type 0 where
  Machines : List RawMachine → Made
  Channels : List RawChannel → Made
  Controllers : List RawController → Made
  Controller : RawController → Made
  Parameter : RawParam → Made
  Parameters : List RawParam → Made
  Definitions : List RawDefinition → Made
  Process : RawProcessTree → Made
  Chain : List RawProcessTree → Made
  Event : RawEvent → Made
  Text : RawText → Made

-- the values of machines and those of texts, each on a stack of its own
pub data Stacks : Type 0 where
  Two : List Built → List Made → Stacks

abbrev nothing : Stacks
nothing = Two [] []

abbrev append_machine : List Built → List Made → Stacks
append_machine (Machine m ∷ l) (Machines ms ∷ h) = Two l (Machines (ms ++ m ∷ []) ∷ h)
append_machine _ _ = nothing

abbrev machines_alone : List Built → List Made → Stacks
machines_alone l (Machines ms ∷ h) = Two l (Text (record { machines = ms; channels = []; controllers = []; order = None }) ∷ h)
machines_alone _ _ = nothing

abbrev append_controller : List Built → List Made → Stacks
append_controller l (Controller c ∷ Controllers cs ∷ h) = Two l (Controllers (cs ++ c ∷ []) ∷ h)
append_controller _ _ = nothing

abbrev system : List Built → List Made → Stacks
system (Names order ∷ l) (Controllers cs ∷ Channels ds ∷ Machines ms ∷ h) =
    Two l (Text (record { machines = ms; channels = ds; controllers = cs; order = Some order }) ∷ h)
system _ _ = nothing

abbrev append_channel : List Built → List Made → Stacks
append_channel (Condition c ∷ Names xs ∷ Word (Named x) ∷ l) (Channels ds ∷ h) =
    Two l (Channels (ds ++ record { name = x; values = xs; condition = c } ∷ []) ∷ h)
append_channel _ _ = nothing

abbrev controller : List Built → List Made → Stacks
controller (Terms ts ∷ Word (Named y) ∷ Names ms ∷ Word (Named x) ∷ l) (Definitions ds ∷ h) =
    Two l (Controller (record { name = x; machines = ms; start = record { name = y; arguments = ts }; definitions = ds }) ∷ h)
controller _ _ = nothing

abbrev append_parameter : List Built → List Made → Stacks
append_parameter l (Parameter p ∷ Parameters ps ∷ h) = Two l (Parameters (ps ++ p ∷ []) ∷ h)
append_parameter _ _ = nothing

abbrev parameter_in : List Built → List Made → Stacks
parameter_in (Domain d ∷ Word (Named x) ∷ l) h = Two l (Parameter (param.Member x d) ∷ h)
parameter_in _ _ = nothing

abbrev parameter_subset : List Built → List Made → Stacks
parameter_subset (Domain d ∷ Word (Named x) ∷ l) h = Two l (Parameter (param.Subset x d) ∷ h)
parameter_subset _ _ = nothing

abbrev append_definition : List Built → List Made → Stacks
append_definition (Condition c ∷ Word (Named x) ∷ l) (Process p ∷ Parameters ps ∷ Definitions ds ∷ h) =
    Two l (Definitions (ds ++ record { name = x; parameters = ps; invariant = c; process = p } ∷ []) ∷ h)
append_definition _ _ = nothing

abbrev first_two : List Built → List Made → Stacks
first_two l (Process q ∷ Process p ∷ h) = Two l (Chain (p ∷ q ∷ []) ∷ h)
first_two _ _ = nothing

abbrev append_process : List Built → List Made → Stacks
append_process l (Process p ∷ Chain ps ∷ h) = Two l (Chain (ps ++ p ∷ []) ∷ h)
append_process _ _ = nothing

abbrev closed : (RawProcesses → RawProcessTree) → List Built → List Made → Stacks
closed c l (Chain ps ∷ h) = Two l (Process (c (raw_processes ps)) ∷ h)
closed c _ _ = nothing

abbrev stop : List Built → List Made → Stacks
stop (Word (Said w p) ∷ l) h = Two l (Process (tree.Stop p) ∷ h)
stop _ _ = nothing

abbrev skip : List Built → List Made → Stacks
skip (Word (Said w p) ∷ l) h = Two l (Process (tree.Skip p) ∷ h)
skip _ _ = nothing

abbrev process_if : List Built → List Made → Stacks
process_if (Formula f ∷ Word (Said w p) ∷ l) (Process b ∷ Process a ∷ h) = Two l (Process (tree.If p f a b) ∷ h)
process_if _ _ = nothing

abbrev call : List Built → List Made → Stacks
call (Terms ts ∷ Word (Named x) ∷ l) h = Two l (Process (tree.Call (record { name = x; arguments = ts })) ∷ h)
call _ _ = nothing

abbrev prefix : List Built → List Made → Stacks
prefix l (Process p ∷ Event e ∷ h) = Two l (Process (tree.Prefix e p) ∷ h)
prefix _ _ = nothing

abbrev output : List Built → List Made → Stacks
output (Condition c ∷ Terms ts ∷ Word (Named x) ∷ l) h = Two l (Event (event.Output x ts c) ∷ h)
output _ _ = nothing

abbrev input : List Built → List Made → Stacks
input (Condition c ∷ Names xs ∷ Word (Named x) ∷ l) h = Two l (Event (event.Input x xs c) ∷ h)
input _ _ = nothing

abbrev operation_call : List Built → List Made → Stacks
operation_call (Names rs ∷ Terms ts ∷ Word (Named o) ∷ Word (Named m) ∷ l) h = Two l (Event (event.Operation m o ts rs) ∷ h)
operation_call _ _ = nothing

abbrev process_step : ℕ → List Built → List Made → Stacks
process_step a l h =
    if eqb a FIRST_TWO then first_two l h else
    if eqb a APPEND_PROCESS then append_process l h else
    if eqb a EXTERNAL then closed (λ ps. tree.External ps) l h else
    if eqb a INTERNAL then closed (λ ps. tree.Internal ps) l h else
    if eqb a STOP then stop l h else
    if eqb a SKIP_PROCESS then skip l h else
    if eqb a PROCESS_IF then process_if l h else
    if eqb a CALL then call l h else
    if eqb a PREFIX then prefix l h else
    if eqb a OUTPUT then output l h else
    if eqb a INPUT then input l h else
    operation_call l h

abbrev text_step : ℕ → List Built → List Made → Stacks
text_step a l h =
    if eqb a NO_MACHINES then Two l (Machines [] ∷ h) else
    if eqb a APPEND_MACHINE then append_machine l h else
    if eqb a MACHINES_ALONE then machines_alone l h else
    if eqb a NO_CONTROLLERS then Two l (Controllers [] ∷ h) else
    if eqb a APPEND_CONTROLLER then append_controller l h else
    if eqb a SYSTEM then system l h else
    if eqb a NO_CHANNELS then Two l (Channels [] ∷ h) else
    if eqb a APPEND_CHANNEL then append_channel l h else
    if eqb a CONTROLLER then controller l h else
    if eqb a NO_PARAMETERS then Two l (Parameters [] ∷ h) else
    if eqb a APPEND_PARAMETER then append_parameter l h else
    if eqb a PARAMETER_IN then parameter_in l h else
    if eqb a PARAMETER_SUBSET then parameter_subset l h else
    if eqb a NO_DEFINITIONS then Two l (Definitions [] ∷ h) else
    if eqb a APPEND_DEFINITION then append_definition l h else
    process_step a l h

abbrev new_step : Lexeme → List Built → List Made → Stacks
new_step (Did a) l h = text_step a l h
new_step _ l h = nothing

abbrev told_all : Lexeme → Stacks → Stacks
told_all x (Two l h) = cond (is_new_lexeme x) (new_step x l h) (Two (told x l) h)

abbrev pub walk : List Lexeme → Stacks → Stacks
walk [] s = s
walk (x ∷ ls) s = walk ls (told_all x s)

walk_append : (a b : List Lexeme) (s : Stacks) → walk (a ++ b) s ≡ walk b (walk a s)
walk_append [] b s = refl
walk_append (x ∷ a) b s = walk_append a b (told_all x s)

-- none stays none
pub stays : (ls : List Lexeme) (s : List Built) → go ls None ≡ Some s → ⊥
stays [] s e = absurd (cc)
stays (x ∷ ls) s e = stays ls s e

-- what builds a value of machines builds it beside the values of texts
beside : (ls : List Lexeme) (s t : List Built) (h : List Made) → go ls (Some s) ≡ Some t → walk ls (Two s h) ≡ Two t h
beside [] s t h e = let q : s ≡ t = cc in rw q refl
beside (x ∷ ls) s t h e = pick (is_new_lexeme x) e (beside ls (told x s) t h)
  where
    pick : (b : Bool) → go ls (cond b None (Some (told x s))) ≡ Some t → (go ls (Some (told x s)) ≡ Some t → walk ls (Two (told x s) h) ≡ Two t h) → walk ls (cond b (new_step x s h) (Two (told x s) h)) ≡ Two t h
    pick true e f = absurd (stays ls t e)
    pick false e f = f e

walk_formula : (f : RawFormulaTree) (l : List Built) (h : List Made) → walk (formula_out f) (Two l h) ≡ Two (Formula f ∷ l) h
walk_formula f l h = beside (formula_out f) l (Formula f ∷ l) h (go_formula f l)

walk_terms : (ts : List RawTermTree) (l : List Built) (h : List Made) → walk (terms_out ts) (Two l h) ≡ Two (Terms ts ∷ l) h
walk_terms ts l h = beside (terms_out ts) l (Terms ts ∷ l) h (go_terms ts l)

walk_names : (xs : List RawName) (l : List Built) (h : List Made) → walk (names_out xs) (Two l h) ≡ Two (Names xs ∷ l) h
walk_names xs l h = beside (names_out xs) l (Names xs ∷ l) h (go_names xs l)

walk_condition : (c : Option RawFormulaTree) (l : List Built) (h : List Made) → walk (condition_out c) (Two l h) ≡ Two (Condition c ∷ l) h
walk_condition c l h = beside (condition_out c) l (Condition c ∷ l) h (go_condition c l)

walk_domain : (d : RawDomain) (l : List Built) (h : List Made) → walk (domain_out d) (Two l h) ≡ Two (Domain d ∷ l) h
walk_domain d l h = beside (domain_out d) l (Domain d ∷ l) h (go_domain d l)

walk_machine : (m : RawMachine) (l : List Built) (h : List Made) → walk (machine_out m) (Two l h) ≡ Two (Machine m ∷ l) h
walk_machine m l h = beside (machine_out m) l (Machine m ∷ l) h (go_machine m l)

walk_event : (e : RawEvent) (l : List Built) (h : List Made) → walk (event_out e) (Two l h) ≡ Two l (Event e ∷ h)
walk_event (event.Output x ts c) l h = simp (walk_append, walk_terms ts, walk_condition c) refl
walk_event (event.Input x xs c) l h = simp (walk_append, walk_names xs, walk_condition c) refl
walk_event (event.Operation m o ts rs) l h = simp (walk_append, walk_terms ts, walk_names rs) refl

abbrev operand_list : RawProcesses → List RawProcessTree
operand_list tree.NoOperand = []
operand_list (tree.Operand p ps) = p ∷ operand_list ps

operands_again : (ps : RawProcesses) → raw_processes (operand_list ps) ≡ ps
operands_again tree.NoOperand = refl
operands_again (tree.Operand p ps) = ap (λ (y : RawProcesses). tree.Operand p y) (operands_again ps)

-- one more for a chain of fewer than two operands
abbrev pub short : RawProcesses → ℕ
short tree.NoOperand = 1
short (tree.Operand p tree.NoOperand) = 1
short (tree.Operand p (tree.Operand q ps)) = 0

-- how many such chains there are
abbrev mutual
  pub process_shorts : RawProcessTree → ℕ
  process_shorts (tree.Stop p) = 0
  process_shorts (tree.Skip p) = 0
  process_shorts (tree.Call c) = 0
  process_shorts (tree.If p f a b) = process_shorts a + process_shorts b
  process_shorts (tree.Prefix e a) = process_shorts a
  process_shorts (tree.External ps) = short ps + operand_shorts ps
  process_shorts (tree.Internal ps) = short ps + operand_shorts ps

  pub operand_shorts : RawProcesses → ℕ
  operand_shorts tree.NoOperand = 0
  operand_shorts (tree.Operand p ps) = process_shorts p + operand_shorts ps

left : (a b : ℕ) → a + b ≡ 0 → a ≡ 0
left a b e = omega (arith, e)

right : (a b : ℕ) → a + b ≡ 0 → b ≡ 0
right a b e = omega (arith, e)

some_short : (n : ℕ) → 1 + n ≡ 0 → ⊥
some_short n e = omega (arith, e)

mutual
  walk_process : (p : RawProcessTree) (l : List Built) (h : List Made) → process_shorts p ≡ 0 → walk (process_out p) (Two l h) ≡ Two l (Process p ∷ h)
  walk_process (tree.Stop p) l h e = refl
  walk_process (tree.Skip p) l h e = refl
  walk_process (tree.Call c) l h e = simp (walk_append, walk_terms c.arguments) refl
  walk_process (tree.If p f a b) l h e =
      let x = walk_process a (Formula f ∷ Word (Said (Keyword keyword.If) p) ∷ l) h (left (process_shorts a) (process_shorts b) e) in
      let y = walk_process b (Formula f ∷ Word (Said (Keyword keyword.If) p) ∷ l) (Process a ∷ h) (right (process_shorts a) (process_shorts b) e) in
      simp (walk_append, walk_formula f, x, y) refl
  walk_process (tree.Prefix ev a) l h e =
      let x = walk_process a l (Event ev ∷ h) e in
      simp (walk_append, walk_event ev, x) refl
  walk_process (tree.External ps) l h e =
      let x = walk_operands ps l h e in
      simp (walk_append, x, operands_again) refl
  walk_process (tree.Internal ps) l h e =
      let x = walk_operands ps l h e in
      simp (walk_append, x, operands_again) refl

  walk_operands : (ps : RawProcesses) (l : List Built) (h : List Made) → short ps + operand_shorts ps ≡ 0 → walk (operands_out ps) (Two l h) ≡ Two l (Chain (operand_list ps) ∷ h)
  walk_operands tree.NoOperand l h e = absurd (some_short 0 e)
  walk_operands (tree.Operand p tree.NoOperand) l h e = absurd (some_short (process_shorts p + 0) e)
  walk_operands (tree.Operand p (tree.Operand q ps)) l h e =
      let t = right 0 (process_shorts p + (process_shorts q + operand_shorts ps)) e in
      let u = right (process_shorts p) (process_shorts q + operand_shorts ps) t in
      let x = walk_process p l h (left (process_shorts p) (process_shorts q + operand_shorts ps) t) in
      let y = walk_process q l (Process p ∷ h) (left (process_shorts q) (operand_shorts ps) u) in
      let z = walk_others ps (p ∷ q ∷ []) l h (right (process_shorts q) (operand_shorts ps) u) in
      simp (walk_append, x, y, z) refl

  walk_others : (ps : RawProcesses) (front : List RawProcessTree) (l : List Built) (h : List Made) → operand_shorts ps ≡ 0 → walk (others_out ps) (Two l (Chain front ∷ h)) ≡ Two l (Chain (front ++ operand_list ps) ∷ h)
  walk_others tree.NoOperand front l h e = rw append-nil refl
  walk_others (tree.Operand p ps) front l h e =
      let x = walk_process p l (Chain front ∷ h) (left (process_shorts p) (operand_shorts ps) e) in
      let y = walk_others ps (front ++ p ∷ []) l h (right (process_shorts p) (operand_shorts ps) e) in
      simp (walk_append, x, y, append_assoc) refl

walk_parameter : (p : RawParam) (l : List Built) (h : List Made) → walk (parameter_out p) (Two l h) ≡ Two l (Parameter p ∷ h)
walk_parameter (param.Member x d) l h = simp (walk_append, walk_domain d) refl
walk_parameter (param.Subset x d) l h = simp (walk_append, walk_domain d) refl

walk_parameters_on : (xs front : List RawParam) (l : List Built) (h : List Made) → walk (flat_map parameter_entry xs) (Two l (Parameters front ∷ h)) ≡ Two l (Parameters (front ++ xs) ∷ h)
walk_parameters_on [] front l h = rw append-nil refl
walk_parameters_on (x ∷ xs) front l h = simp (walk_append, walk_parameter x, walk_parameters_on xs, append_assoc) refl

walk_parameters : (xs : List RawParam) (l : List Built) (h : List Made) → walk (parameters_out xs) (Two l h) ≡ Two l (Parameters xs ∷ h)
walk_parameters xs l h = walk_parameters_on xs [] l h

abbrev pub definition_shorts : List RawDefinition → ℕ
definition_shorts [] = 0
definition_shorts (d ∷ ds) = process_shorts d.process + definition_shorts ds

walk_definition : (d : RawDefinition) (front : List RawDefinition) (l : List Built) (h : List Made) → process_shorts d.process ≡ 0 → walk (definition_entry d) (Two l (Definitions front ∷ h)) ≡ Two l (Definitions (front ++ d ∷ []) ∷ h)
walk_definition d front l h e =
    let x = walk_process d.process (Condition d.invariant ∷ Word (Named d.name) ∷ l) (Parameters d.parameters ∷ Definitions front ∷ h) e in
    simp (walk_append, walk_parameters d.parameters, walk_condition d.invariant, x) refl

walk_definitions_on : (xs front : List RawDefinition) (l : List Built) (h : List Made) → definition_shorts xs ≡ 0 → walk (flat_map definition_entry xs) (Two l (Definitions front ∷ h)) ≡ Two l (Definitions (front ++ xs) ∷ h)
walk_definitions_on [] front l h e = rw append-nil refl
walk_definitions_on (x ∷ xs) front l h e =
    let a = walk_definition x front l h (left (process_shorts x.process) (definition_shorts xs) e) in
    let b = walk_definitions_on xs (front ++ x ∷ []) l h (right (process_shorts x.process) (definition_shorts xs) e) in
    rw (walk_append (definition_entry x) (flat_map definition_entry xs), a, b) (rw append_assoc refl)

pub walk_controller : (c : RawController) (l : List Built) (h : List Made) → definition_shorts c.definitions ≡ 0 → walk (controller_out c) (Two l h) ≡ Two l (Controller c ∷ h)
walk_controller c l h e =
    let x = walk_definitions_on c.definitions [] (Terms c.start.arguments ∷ Word (Named c.start.name) ∷ Names c.machines ∷ Word (Named c.name) ∷ l) h e in
    simp (walk_append, walk_names c.machines, walk_terms c.start.arguments, x) refl

abbrev pub controller_shorts : List RawController → ℕ
controller_shorts [] = 0
controller_shorts (c ∷ cs) = definition_shorts c.definitions + controller_shorts cs

walk_controller_entry : (c : RawController) (front : List RawController) (l : List Built) (h : List Made) → definition_shorts c.definitions ≡ 0 → walk (controller_entry c) (Two l (Controllers front ∷ h)) ≡ Two l (Controllers (front ++ c ∷ []) ∷ h)
walk_controller_entry c front l h e = rw (walk_append (controller_out c) (Did APPEND_CONTROLLER ∷ []) (Two l (Controllers front ∷ h)), walk_controller c l (Controllers front ∷ h) e) refl

walk_controllers_on : (xs front : List RawController) (l : List Built) (h : List Made) → controller_shorts xs ≡ 0 → walk (flat_map controller_entry xs) (Two l (Controllers front ∷ h)) ≡ Two l (Controllers (front ++ xs) ∷ h)
walk_controllers_on [] front l h e = rw append-nil refl
walk_controllers_on (x ∷ xs) front l h e =
    let a = walk_controller_entry x front l h (left (definition_shorts x.definitions) (controller_shorts xs) e) in
    let b = walk_controllers_on xs (front ++ x ∷ []) l h (right (definition_shorts x.definitions) (controller_shorts xs) e) in
    rw (walk_append (controller_entry x) (flat_map controller_entry xs), a, b) (rw append_assoc refl)

pub walk_channels_on : (xs front : List RawChannel) (l : List Built) (h : List Made) → walk (flat_map channel_entry xs) (Two l (Channels front ∷ h)) ≡ Two l (Channels (front ++ xs) ∷ h)
walk_channels_on [] front l h = rw append-nil refl
walk_channels_on (x ∷ xs) front l h = simp (walk_append, walk_names x.values, walk_condition x.condition, walk_channels_on xs, append_assoc) refl

walk_machine_entry : (m : RawMachine) (front : List RawMachine) (l : List Built) (h : List Made) → walk (machine_entry m) (Two l (Machines front ∷ h)) ≡ Two l (Machines (front ++ m ∷ []) ∷ h)
walk_machine_entry m front l h = rw (walk_append (machine_out m) (Did APPEND_MACHINE ∷ []) (Two l (Machines front ∷ h)), walk_machine m l (Machines front ∷ h)) refl

walk_machines_on : (xs front : List RawMachine) (l : List Built) (h : List Made) → walk (flat_map machine_entry xs) (Two l (Machines front ∷ h)) ≡ Two l (Machines (front ++ xs) ∷ h)
walk_machines_on [] front l h = rw append-nil refl
walk_machines_on (x ∷ xs) front l h =
    let a = walk_machine_entry x front l h in
    let b = walk_machines_on xs (front ++ x ∷ []) l h in
    rw (walk_append (machine_entry x) (flat_map machine_entry xs), a, b) (rw append_assoc refl)

same_order : (ms : List RawMachine) (ds : List RawChannel) (cs : List RawController) (o q : Option (List RawName)) → o ≡ q →
    Two [] (Text (record { machines = ms; channels = ds; controllers = cs; order = q }) ∷ []) ≡ Two [] (Text (record { machines = ms; channels = ds; controllers = cs; order = o }) ∷ [])
same_order ms ds cs o q e = rw e refl

same_alone : (ms : List RawMachine) (ds : List RawChannel) (cs : List RawController) (o : Option (List RawName)) → ds ≡ [] → cs ≡ [] → o ≡ None →
    Two [] (Text (record { machines = ms; channels = []; controllers = []; order = None }) ∷ []) ≡ Two [] (Text (record { machines = ms; channels = ds; controllers = cs; order = o }) ∷ [])
same_alone ms ds cs o d c e = rw (d, c, e) refl

walk_rest : (t : RawText) (order : Option (List RawName)) → t.order ≡ order → StandsAlone t → controller_shorts t.controllers ≡ 0 → walk (rest_out t order) (Two [] (Machines t.machines ∷ [])) ≡ Two [] (Text t ∷ [])
walk_rest t None o alone e = let a = alone o in same_alone t.machines t.channels t.controllers t.order a.0 a.1 o
walk_rest t (Some order) o alone e =
    let x = walk_channels_on t.channels [] [] (Machines t.machines ∷ []) in
    let y = walk_controllers_on t.controllers [] [] (Channels t.channels ∷ Machines t.machines ∷ []) e in
    simp (walk_append, x, y, walk_names order) (same_order t.machines t.channels t.controllers t.order (Some order) o)

pub walk_text : (t : RawText) → StandsAlone t → controller_shorts t.controllers ≡ 0 → walk (text_out t) (Two [] []) ≡ Two [] (Text t ∷ [])
walk_text t alone e =
    let x = walk_machines_on t.machines [] [] [] in
    rw (walk_append (machines_out t.machines) (rest_out t t.order) (Two [] []), x) (walk_rest t t.order refl alone e)
