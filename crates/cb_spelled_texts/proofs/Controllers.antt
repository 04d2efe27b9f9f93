-- Each chain of a controller whose items have kinds has two operands or more.
use Rattle.std.proofs.Common.{◌≡◌, ℕ, List, [], ◌∷◌, ◌++◌, refl, append_assoc, arith}
use Rattle.std.specs.Prelude.{Some}
use Rattle.std.specs.List.{flat_map}
use Rattle.cb_lex.specs.declared.raw.domain.RawParam.{RawParam}
use Rattle.cb_lex.specs.declared.raw.domain.RawParam.TheVariants as param
use Rattle.cb_lex.specs.declared.raw.name.RawName.{RawName}
use Rattle.cb_lex.specs.declared.raw.text.RawMachine.{RawMachine}
use Rattle.cb_lex.specs.declared.raw.text.RawChannel.{RawChannel}
use Rattle.cb_lex.specs.declared.raw.text.RawController.{RawController}
use Rattle.cb_lex.specs.declared.raw.text.RawDefinition.{RawDefinition}
use Rattle.cb_grammar.specs.declared.actions.TheConstants.{APPEND_MACHINE, APPEND_CHANNEL, APPEND_DEFINITION, CONTROLLER, APPEND_CONTROLLER}
use Rattle.cb_grammar.specs.Signatures.{machines_kind, channels_kind, controllers_kind, names_kind, condition_kind, parameter_kind, parameters_kind, definitions_kind, process_kind, terms_kind}
use Rattle.cb_amn_parse.specs.Lexemes.{Lexeme, Named, Did}
use Rattle.cb_amn_parse.specs.Formulas.{terms_out, names_out, condition_out}
use Rattle.cb_amn_parse.specs.Machines.{machine_out}
use Rattle.cb_amn_parse.specs.Processes.{process_out, parameter_out, parameter_entry, parameters_out, definition_entry, definitions_out, controller_entry, channel_entry, channels_out, machine_entry}
use Rattle.cb_shapes.specs.Full.{AllOf}
use Rattle.cb_shapes.proofs.Table.{word_kind, no_names}
use Rattle.cb_shapes.proofs.Values.{told, told_append, front_told, Tells, told_condition, told_domain, kind_of, told_names}
use Rattle.cb_shapes.proofs.Machines.{full_machine}
use Rattle.cb_spelled_texts.proofs.Acting.{chains}
use Rattle.cb_spelled_texts.proofs.Chains.{past, told_terms, shorts, shorts_take, told_process}

-- ---- machines, channels and parameters

pub past_machines : (ms : List RawMachine) (more : List Lexeme) (k last : List ℕ) → told (flat_map machine_entry ms ++ more) (Some (machines_kind ∷ k)) ≡ Some last → told more (Some (machines_kind ∷ k)) ≡ Some last
past_machines [] more k last e = e
past_machines (m ∷ ms) more k last e =
    let h = rw (append_assoc (machine_entry m) (flat_map machine_entry ms) more, append_assoc (machine_out m) (Did APPEND_MACHINE ∷ []) (flat_map machine_entry ms ++ more)) at e in
    let a = full_machine m (Did APPEND_MACHINE ∷ (flat_map machine_entry ms ++ more)) (machines_kind ∷ k) last h in
    past_machines ms more k last a.1

channel_ends : (xs : List RawName) (k : List ℕ) → told (Did APPEND_CHANNEL ∷ []) (Some (condition_kind ∷ kind_of no_names names_kind xs ∷ word_kind ∷ channels_kind ∷ k)) ≡ Some (channels_kind ∷ k)
channel_ends [] k = refl
channel_ends (x ∷ xs) k = refl

told_channel : (c : RawChannel) (k : List ℕ) → told (channel_entry c) (Some (channels_kind ∷ k)) ≡ Some (channels_kind ∷ k)
told_channel c k = simp (told_append, told_names c.values, told_condition c.condition) (channel_ends c.values k)

more_channels : (cs : List RawChannel) (k : List ℕ) → told (flat_map channel_entry cs) (Some (channels_kind ∷ k)) ≡ Some (channels_kind ∷ k)
more_channels [] k = refl
more_channels (c ∷ cs) k = rw (told_append (channel_entry c) (flat_map channel_entry cs) (Some (channels_kind ∷ k)), told_channel c k) (more_channels cs k)

pub told_channels : (cs : List RawChannel) → Tells (channels_out cs) channels_kind
told_channels cs k = more_channels cs k

told_parameter : (p : RawParam) → Tells (parameter_out p) parameter_kind
told_parameter (param.Member x d) k = simp (told_append, told_domain d) refl
told_parameter (param.Subset x d) k = simp (told_append, told_domain d) refl

more_parameters : (ps : List RawParam) (k : List ℕ) → told (flat_map parameter_entry ps) (Some (parameters_kind ∷ k)) ≡ Some (parameters_kind ∷ k)
more_parameters [] k = refl
more_parameters (p ∷ ps) k = simp (told_append, told_parameter p, more_parameters ps) refl

told_parameters : (ps : List RawParam) → Tells (parameters_out ps) parameters_kind
told_parameters ps k = more_parameters ps k

-- ---- definitions

-- no chain of it is short
abbrev pub IsChained : RawDefinition → Type 0
IsChained d = shorts d.process ≡ 0

abbrev before_process : List ℕ → List ℕ
before_process k = condition_kind ∷ parameters_kind ∷ word_kind ∷ definitions_kind ∷ k

chained_definition : (d : RawDefinition) (more : List Lexeme) (k last : List ℕ) → chains k ≡ 0 → told (definition_entry d ++ more) (Some (definitions_kind ∷ k)) ≡ Some last →
    IsChained d × (told more (Some (definitions_kind ∷ k)) ≡ Some last)
chained_definition d more k last z e =
    let end : List Lexeme = process_out d.process ++ Did APPEND_DEFINITION ∷ more in
    let h : told (parameters_out d.parameters ++ (condition_out d.invariant ++ end)) (Some (word_kind ∷ definitions_kind ∷ k)) ≡ Some last = simp append_assoc at e in
    let i = rw (past (parameters_out d.parameters) (condition_out d.invariant ++ end) parameters_kind (told_parameters d.parameters) (word_kind ∷ definitions_kind ∷ k)) at h in
    let j = rw (past (condition_out d.invariant) end condition_kind (told_condition d.invariant) (parameters_kind ∷ word_kind ∷ definitions_kind ∷ k)) at i in
    let x = front_told (process_out d.process) (Did APPEND_DEFINITION ∷ more) (before_process k) last j in
    let s = shorts_take d.process (before_process k) x.0 x.1 in
    let c : IsChained d = omega (arith, s, z) in
    (c, rw (past (process_out d.process) (Did APPEND_DEFINITION ∷ more) process_kind (told_process d.process c) (before_process k)) at j)

chained_definitions : (ds : List RawDefinition) (more : List Lexeme) (k last : List ℕ) → chains k ≡ 0 → told (flat_map definition_entry ds ++ more) (Some (definitions_kind ∷ k)) ≡ Some last →
    AllOf IsChained ds × (told more (Some (definitions_kind ∷ k)) ≡ Some last)
chained_definitions [] more k last z e = (tt, e)
chained_definitions (d ∷ ds) more k last z e =
    let a = chained_definition d (flat_map definition_entry ds ++ more) k last z (rw (append_assoc (definition_entry d) (flat_map definition_entry ds) more) at e) in
    let b = chained_definitions ds more k last z a.1 in
    ((a.0, b.0), b.1)

-- ---- controllers

abbrev pub HasChains : RawController → Type 0
HasChains c = AllOf IsChained c.definitions

no_chains : (xs : List RawName) (k : List ℕ) → chains k ≡ 0 → chains (terms_kind ∷ word_kind ∷ kind_of no_names names_kind xs ∷ word_kind ∷ controllers_kind ∷ k) ≡ 0
no_chains [] k z = omega (arith, z)
no_chains (x ∷ xs) k z = omega (arith, z)

controller_ends : (xs : List RawName) (more : List Lexeme) (k last : List ℕ) → told (Did CONTROLLER ∷ Did APPEND_CONTROLLER ∷ more) (Some (definitions_kind ∷ terms_kind ∷ word_kind ∷ kind_of no_names names_kind xs ∷ word_kind ∷ controllers_kind ∷ k)) ≡ Some last →
    told more (Some (controllers_kind ∷ k)) ≡ Some last
controller_ends [] more k last e = e
controller_ends (x ∷ xs) more k last e = e

chained_controller : (c : RawController) (more : List Lexeme) (k last : List ℕ) → chains k ≡ 0 → told (controller_entry c ++ more) (Some (controllers_kind ∷ k)) ≡ Some last →
    HasChains c × (told more (Some (controllers_kind ∷ k)) ≡ Some last)
chained_controller c more k last z e =
    let end : List Lexeme = Did CONTROLLER ∷ Did APPEND_CONTROLLER ∷ more in
    let h : told (names_out c.machines ++ Named c.start.name ∷ (terms_out c.start.arguments ++ (definitions_out c.definitions ++ end))) (Some (word_kind ∷ controllers_kind ∷ k)) ≡ Some last = simp append_assoc at e in
    let n : ℕ = kind_of no_names names_kind c.machines in
    let i = rw (past (names_out c.machines) (Named c.start.name ∷ (terms_out c.start.arguments ++ (definitions_out c.definitions ++ end))) n (told_names c.machines) (word_kind ∷ controllers_kind ∷ k)) at h in
    let j = rw (past (terms_out c.start.arguments) (definitions_out c.definitions ++ end) terms_kind (told_terms c.start.arguments) (word_kind ∷ n ∷ word_kind ∷ controllers_kind ∷ k)) at i in
    let a = chained_definitions c.definitions end (terms_kind ∷ word_kind ∷ n ∷ word_kind ∷ controllers_kind ∷ k) last (no_chains c.machines k z) j in
    (a.0, controller_ends c.machines more k last a.1)

pub chained_controllers : (cs : List RawController) (more : List Lexeme) (k last : List ℕ) → chains k ≡ 0 → told (flat_map controller_entry cs ++ more) (Some (controllers_kind ∷ k)) ≡ Some last →
    AllOf HasChains cs × (told more (Some (controllers_kind ∷ k)) ≡ Some last)
chained_controllers [] more k last z e = (tt, e)
chained_controllers (c ∷ cs) more k last z e =
    let a = chained_controller c (flat_map controller_entry cs ++ more) k last z (rw (append_assoc (controller_entry c) (flat_map controller_entry cs) more) at e) in
    let b = chained_controllers cs more k last z a.1 in
    ((a.0, b.0), b.1)
