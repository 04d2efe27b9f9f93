-- The pieces of channels, controllers and texts are spelled by the grammar.
use Rattle.std.proofs.Common.{◌≡◌, true, false, List, [], ◌∷◌, ◌++◌, refl, sym, subst, append_assoc, inl, inr}
use Rattle.std.specs.Prelude.{Option, Some, None}
use Rattle.std.specs.List.{flat_map}
use Rattle.cb_lex.specs.declared.token.Keyword.TheVariants as keyword
use Rattle.cb_lex.specs.declared.token.Sign.TheVariants as sign
use Rattle.cb_lex.specs.declared.raw.domain.RawParam.{RawParam}
use Rattle.cb_lex.specs.declared.raw.domain.RawParam.TheVariants as param
use Rattle.cb_lex.specs.declared.raw.name.RawName.{RawName}
use Rattle.cb_lex.specs.declared.raw.text.RawChannel.{RawChannel}
use Rattle.cb_lex.specs.declared.raw.text.RawController.{RawController}
use Rattle.cb_lex.specs.declared.raw.text.RawDefinition.{RawDefinition}
use Rattle.cb_lex.specs.declared.raw.text.RawMachine.{RawMachine}
use Rattle.cb_lex.specs.declared.raw.text.RawText.{RawText}
use Rattle.cb_lex.specs.RawTermTree.{RawFormulaTree}
use Rattle.cb_engine.specs.declared.Symbol.{Symbol}
use Rattle.cb_engine.specs.declared.Symbol.TheVariants.{Act, Part}
use Rattle.cb_engine.specs.Lines.{Among, Repeated}
use Rattle.cb_engine.specs.Lines.Repeated.{none, more}
use Rattle.cb_grammar.specs.declared.actions.TheConstants as action
use Rattle.cb_grammar.specs.Numbers as part
use Rattle.cb_written.specs.Controllers.{SystemIsWritten, more_channel, ChannelsLine, ChannelsAreWritten, wheres, ChannelLine, ChannelIsWritten, machine_names, more_definition, ControllerLine, ControllerIsWritten, parameters_or_none, invariants, DefinitionLine, DefinitionIsWritten, more_parameter, ParametersLine, ParametersAreWritten, parameter_lines, ParameterIsWritten}
use Rattle.cb_written.specs.Shapes.{Exactly}
use Rattle.cb_written.specs.Texts.{OperationIsWritten, one_machine, one_controller, channels_or_none, TextLine, TextIsWritten}
use Rattle.cb_written.specs.Texts.TextLine.{machines, system}
use Rattle.cb_amn_parse.specs.Lexemes.{Named, Did}
use Rattle.cb_amn_parse.specs.Formulas.{terms_out, names_out, condition_out}
use Rattle.cb_amn_parse.specs.Machines.{domain_out, machine_out}
use Rattle.cb_amn_parse.specs.Processes.{process_out, parameter_out, parameter_entry, parameters_out, definition_entry, definitions_out, controller_out, controller_entry, controllers_out, channel_entry, channels_out, machine_entry, rest_out, text_out}
use Rattle.cb_shapes.specs.Full.{some, AllOf, IsFull}
use Rattle.cb_amn_print.proofs.Lines.{join, sign_taken, word_taken, act, by_line}
use Rattle.cb_amn_print.proofs.MachinePieces.{names_script}
use Rattle.cb_amn_print.proofs.MachineSpelled.{empty, name_good, names_good, domain_good}
use Rattle.cb_amn_print.proofs.Scripts.{Piece, Done}
use Rattle.cb_amn_print.proofs.WholeSpelled.{machine_good}
use Rattle.cb_text_shapes.specs.Whole.{IsChained, IsWholeController, IsWholeSystem, IsWholeRest, IsWholeText}
use Rattle.cb_text_print.proofs.Spelled.{ProcessLaws, G, Fine, both, open_taken, close_taken, OneOfThese, Again, given_good, ended_names_good, condition_good, process_good}
use Rattle.cb_text_print.proofs.TextPieces.{where_script, channel_script, channels_rest, channels_script, parameter_script, parameters_rest, parameters_script, invariant_script, definition_script, definitions_rest, definitions_script, machines_part, controller_script, controllers_script, machines_script, order_script, rest_script, text_script}

pub record TextLaws : Type 0 where
  pub processes : ProcessLaws
  pub operation : OperationIsWritten
  pub channels : ChannelsAreWritten
  pub channel : ChannelIsWritten
  pub parameters : ParametersAreWritten
  pub parameter : ParameterIsWritten
  pub definition : DefinitionIsWritten
  pub controller : ControllerIsWritten
  pub system_law : SystemIsWritten
  pub text : TextIsWritten

never : (X : Type 0) {Y : Type 0} → some {X = X} [] ≡ true → Y
never X e = absurd (cc)

module _ (l : TextLaws) where
  nothing : G [] []
  nothing = empty false l.processes.more_laws

  some_names : (xs : List RawName) → some xs ≡ true → Fine (names_out xs) → G (Part part.names ∷ []) (names_script xs)
  some_names [] e f = never RawName e
  some_names (x ∷ xs) e f = names_good false l.processes.more_laws x xs f

  -- ---- channels

  where_good : (c : Option RawFormulaTree) → Fine (condition_out c) → OneOfThese wheres (where_script c)
  where_good None f = (_, (inr (inl refl), act false action.NO_CONDITION))
  where_good (Some g) f = (_, (inl refl, join false (word_taken false keyword.Where refl) (join false (condition_good l.processes g f) (act false action.SOME_CONDITION))))

  channel_good : (c : RawChannel) → Fine (channel_entry c) → G (Part part.channel ∷ []) (channel_script c)
  channel_good c f =
      let d = both (names_out c.values) (condition_out c.condition) (both (names_out c.values ++ condition_out c.condition) (Did action.APPEND_CHANNEL ∷ []) f.1).0 in
      let n = ended_names_good l.processes c.values d.0 in
      let h = where_good c.condition d.1 in
      by_line false part.channel ChannelLine l.channel _ _ (_, _, refl, (n.0, _, n.1.0, (h.0, _, h.1.0, refl, refl), refl), refl)
      (join false (name_good false l.processes.more_laws c.name f.0) (join false open_taken (join false n.1.1 (join false h.1.1 (act false action.APPEND_CHANNEL)))))

  more_channels : (cs : List RawChannel) → Fine (flat_map channel_entry cs) → Again more_channel (channels_rest cs)
  more_channels [] f = ([], (none, nothing))
  more_channels (c ∷ cs) f =
      let d = both (channel_entry c) (flat_map channel_entry cs) f in
      let z = more_channels cs d.1 in
      (more_channel ++ z.0, (more more_channel z.0 (inl refl) z.1.0, join false (sign_taken false sign.Semicolon) (join false (channel_good c d.0) z.1.1)))

  channels_good : (cs : List RawChannel) → Fine (channels_out cs) → OneOfThese channels_or_none (channels_script cs)
  channels_good [] f = (_, (inr (inl refl), act false action.NO_CHANNELS))
  channels_good (c ∷ cs) f =
      let d = both (channel_entry c) (flat_map channel_entry cs) f.1 in
      let z = more_channels cs d.1 in
      let g = by_line false part.channels ChannelsLine l.channels _ _ (_, _, refl, (z.0, _, z.1.0, refl, refl), refl)
      (join false (word_taken false keyword.Channels refl) (join false (act false action.NO_CHANNELS) (join false (channel_good c d.0) (join false z.1.1 (word_taken false keyword.End refl))))) in
      (_, (inl refl, g))

  -- ---- definitions

  parameter_good : (p : RawParam) → Fine (parameter_out p) → G (Part part.parameter ∷ []) (parameter_script p)
  parameter_good (param.Member x d) f =
      let q = (both (domain_out d) (Did action.PARAMETER_IN ∷ []) f.1).0 in
      by_line false part.parameter (Among parameter_lines) l.parameter _ _ (inl refl)
      (join false (name_good false l.processes.more_laws x f.0) (join false (sign_taken false sign.Member) (join false (domain_good false l.processes.more_laws d q) (act false action.PARAMETER_IN))))
  parameter_good (param.Subset x d) f =
      let q = (both (domain_out d) (Did action.PARAMETER_SUBSET ∷ []) f.1).0 in
      by_line false part.parameter (Among parameter_lines) l.parameter _ _ (inr (inl refl))
      (join false (name_good false l.processes.more_laws x f.0) (join false (sign_taken false sign.Subset) (join false (domain_good false l.processes.more_laws d q) (act false action.PARAMETER_SUBSET))))

  more_parameters : (ps : List RawParam) → Fine (flat_map parameter_entry ps) → Again more_parameter (parameters_rest ps)
  more_parameters [] f = ([], (none, nothing))
  more_parameters (p ∷ ps) f =
      let d = both (parameter_entry p) (flat_map parameter_entry ps) f in
      let g = parameter_good p (both (parameter_out p) (Did action.APPEND_PARAMETER ∷ []) d.0).0 in
      let z = more_parameters ps d.1 in
      (more_parameter ++ z.0, (more more_parameter z.0 (inl refl) z.1.0, join false (sign_taken false sign.Comma) (join false g (join false (act false action.APPEND_PARAMETER) z.1.1))))

  parameters_good : (ps : List RawParam) → Fine (flat_map parameter_entry ps) → OneOfThese parameters_or_none (parameters_script ps)
  parameters_good [] f = (_, (inr (inl refl), nothing))
  parameters_good (p ∷ ps) f =
      let d = both (parameter_entry p) (flat_map parameter_entry ps) f in
      let g = parameter_good p (both (parameter_out p) (Did action.APPEND_PARAMETER ∷ []) d.0).0 in
      let z = more_parameters ps d.1 in
      let h = by_line false part.parameters ParametersLine l.parameters _ _ (_, z.0, refl, z.1.0, refl) (join false g (join false (act false action.APPEND_PARAMETER) z.1.1)) in
      (_, (inl refl, join false open_taken (join false h close_taken)))

  invariant_good : (c : Option RawFormulaTree) → Fine (condition_out c) → OneOfThese invariants (invariant_script c)
  invariant_good None f = (_, (inr (inl refl), act false action.NO_CONDITION))
  invariant_good (Some g) f = (_, (inl refl, join false (word_taken false keyword.Inv refl) (join false open_taken (join false (condition_good l.processes g f) (join false close_taken (act false action.SOME_CONDITION))))))

  definition_good : (d : RawDefinition) → IsChained d.process → Fine (definition_entry d) → G (Part part.definition ∷ []) (definition_script d)
  definition_good d u f =
      let a = both (parameters_out d.parameters ++ condition_out d.invariant) (process_out d.process) (both ((parameters_out d.parameters ++ condition_out d.invariant) ++ process_out d.process) (Did action.APPEND_DEFINITION ∷ []) f.1).0 in
      let b = both (parameters_out d.parameters) (condition_out d.invariant) a.0 in
      let p = parameters_good d.parameters b.0.1 in
      let i = invariant_good d.invariant b.1 in
      let q = process_good l.processes d.process u a.1 in
      by_line false part.definition DefinitionLine l.definition _ _ (_, _, refl, (p.0, _, p.1.0, (i.0, _, i.1.0, refl, refl), refl), refl)
      (join false (name_good false l.processes.more_laws d.name f.0) (join false (act false action.NO_PARAMETERS) (join false p.1.1 (join false i.1.1 (join false (sign_taken false sign.Equal) (join false q.whole (act false action.APPEND_DEFINITION)))))))

  more_definitions : (ds : List RawDefinition) → AllOf (λ d. IsChained d.process) ds → Fine (flat_map definition_entry ds) → Again more_definition (definitions_rest ds)
  more_definitions [] u f = ([], (none, nothing))
  more_definitions (d ∷ ds) u f =
      let e = both (definition_entry d) (flat_map definition_entry ds) f in
      let z = more_definitions ds u.1 e.1 in
      (more_definition ++ z.0, (more more_definition z.0 (inl refl) z.1.0, join false (sign_taken false sign.Semicolon) (join false (definition_good d u.0 e.0) z.1.1)))

  -- a definition and others
  definitions_good : (ds : List RawDefinition) → some ds ≡ true → AllOf (λ d. IsChained d.process) ds → Fine (flat_map definition_entry ds) → (x : List Symbol) × (Repeated (more_definition ∷ []) x × G (Part part.definition ∷ x) (definitions_script ds))
  definitions_good [] e u f = never RawDefinition e
  definitions_good (d ∷ ds) e u f =
      let q = both (definition_entry d) (flat_map definition_entry ds) f in
      let z = more_definitions ds u.1 q.1 in
      (z.0, (z.1.0, join false (definition_good d u.0 q.0) z.1.1))

  -- ---- controllers

  machines_part_good : (xs : List RawName) → Fine (names_out xs) → OneOfThese machine_names (machines_part xs)
  machines_part_good [] f = (_, (inr (inl refl), act false action.NO_NAMES))
  machines_part_good (x ∷ xs) f = (_, (inl refl, join false (word_taken false keyword.Machines refl) (names_good false l.processes.more_laws x xs f)))

  controller_good : (c : RawController) → IsWholeController c → Fine (controller_out c) → G (Part part.controller ∷ []) (controller_script c)
  controller_good c u f =
      let a = both (names_out c.machines ++ (Named c.start.name ∷ terms_out c.start.arguments)) (definitions_out c.definitions) (both ((names_out c.machines ++ (Named c.start.name ∷ terms_out c.start.arguments)) ++ definitions_out c.definitions) (Did action.CONTROLLER ∷ []) f.1).0 in
      let b = both (names_out c.machines) (Named c.start.name ∷ terms_out c.start.arguments) a.0 in
      let m = machines_part_good c.machines b.0 in
      let t = given_good l.processes c.start.arguments b.1.1.1 in
      let d = definitions_good c.definitions u.defined u.chained a.1.1 in
      by_line false part.controller ControllerLine l.controller _ _ (_, _, refl, (m.0, _, m.1.0, (_, _, refl, (t.0, _, t.1.0, (_, _, refl, (d.0, _, d.1.0, refl, refl), refl), refl), refl), refl), refl)
      (join false (word_taken false keyword.Controller refl) (join false (name_good false l.processes.more_laws c.name f.0) (join false m.1.1 (join false (word_taken false keyword.Start refl) (join false (name_good false l.processes.more_laws c.start.name b.1.0) (join false (act false action.NO_TERMS)
      (join false t.1.1 (join false (word_taken false keyword.Processes refl) (join false (act false action.NO_DEFINITIONS) (join false d.1.1 (join false (word_taken false keyword.End refl) (act false action.CONTROLLER))))))))))))

  controllers_good : (cs : List RawController) → AllOf IsWholeController cs → Fine (flat_map controller_entry cs) → Again one_controller (controllers_script cs)
  controllers_good [] u f = ([], (none, nothing))
  controllers_good (c ∷ cs) u f =
      let e = both (controller_entry c) (flat_map controller_entry cs) f in
      let g = controller_good c u.0 (both (controller_out c) (Did action.APPEND_CONTROLLER ∷ []) e.0).0 in
      let z = controllers_good cs u.1 e.1 in
      (one_controller ++ z.0, (more one_controller z.0 (inl refl) z.1.0, join false g (join false (act false action.APPEND_CONTROLLER) z.1.1)))

  -- ---- texts

  machines_good : (ms : List RawMachine) → AllOf IsFull ms → Fine (flat_map machine_entry ms) → Again one_machine (machines_script ms)
  machines_good [] u f = ([], (none, nothing))
  machines_good (m ∷ ms) u f =
      let e = both (machine_entry m) (flat_map machine_entry ms) f in
      let g = machine_good false l.processes.more_laws l.operation m u.0 (both (machine_out m) (Did action.APPEND_MACHINE ∷ []) e.0).0 in
      let z = machines_good ms u.1 e.1 in
      (one_machine ++ z.0, (more one_machine z.0 (inl refl) z.1.0, join false g (join false (act false action.APPEND_MACHINE) z.1.1)))

  text_by : (w : List Symbol) (p : List Piece) → TextLine w → G w p → G (Part part.text ∷ []) p
  text_by w p s g = by_line false part.text TextLine l.text w p s g

  alone_good : (ms : List RawMachine) → some ms ≡ true → AllOf IsFull ms → Fine (flat_map machine_entry ms) → G (Part part.text ∷ []) (Done action.NO_MACHINES ∷ (machines_script ms ++ (Done action.MACHINES_ALONE ∷ [])))
  alone_good [] e u f = never RawMachine e
  alone_good (m ∷ ms) e u f =
      let q = both (machine_entry m) (flat_map machine_entry ms) f in
      let g = machine_good false l.processes.more_laws l.operation m u.0 (both (machine_out m) (Did action.APPEND_MACHINE ∷ []) q.0).0 in
      let z = machines_good ms u.1 q.1 in
      text_by _ _ (machines z.0 z.1.0) (join false (act false action.NO_MACHINES) (join false (join false g (join false (act false action.APPEND_MACHINE) z.1.1)) (act false action.MACHINES_ALONE)))

  order_good : (xs : List RawName) → some xs ≡ true → Fine (names_out xs) → G (Part part.system ∷ []) (order_script xs)
  order_good xs e f =
      by_line false part.system (Exactly _) l.system_law _ _ refl (join false (word_taken false keyword.System refl) (join false (some_names xs e f) (join false (word_taken false keyword.End refl) (act false action.SYSTEM))))

  abbrev first_controller : List Symbol
  first_controller = Act action.NO_CONTROLLERS ∷ one_controller

  -- the controllers and the system
  controlled_good : (cs : List RawController) (xs : List RawName) → IsWholeSystem cs xs → Fine (controllers_out cs) → Fine (names_out xs) →
      (y : List Symbol) × (Repeated (one_controller ∷ []) y × G (first_controller ++ (y ++ (Part part.system ∷ []))) (Done action.NO_CONTROLLERS ∷ (controllers_script cs ++ order_script xs)))
  controlled_good [] xs u f h = never RawController u.controlled
  controlled_good (c ∷ cs) xs u f h =
      let e = both (controller_entry c) (flat_map controller_entry cs) f.1 in
      let g = controller_good c (u.each).0 (both (controller_out c) (Did action.APPEND_CONTROLLER ∷ []) e.0).0 in
      let z = controllers_good cs (u.each).1 e.1 in
      (z.0, (z.1.0, join false (act false action.NO_CONTROLLERS) (join false (join false g (join false (act false action.APPEND_CONTROLLER) z.1.1)) (order_good xs u.ordered h))))

  system_good : (t : RawText) (xs : List RawName) → AllOf IsFull t.machines → IsWholeSystem t.controllers xs → Fine (flat_map machine_entry t.machines) → Fine (rest_out t (Some xs)) → G (Part part.text ∷ []) (Done action.NO_MACHINES ∷ (machines_script t.machines ++ rest_script t (Some xs)))
  system_good t xs m u f h =
      let a = both (channels_out t.channels ++ controllers_out t.controllers) (names_out xs) (both ((channels_out t.channels ++ controllers_out t.controllers) ++ names_out xs) (Did action.SYSTEM ∷ []) h).0 in
      let b = both (channels_out t.channels) (controllers_out t.controllers) a.0 in
      let x = machines_good t.machines m f in
      let c = channels_good t.channels b.0 in
      let y = controlled_good t.controllers xs u b.1 a.1 in
      let end : List Symbol = y.0 ++ (Part part.system ∷ []) in
      let g : G (Act action.NO_MACHINES ∷ (x.0 ++ (c.0 ++ (first_controller ++ end)))) (Done action.NO_MACHINES ∷ (machines_script t.machines ++ rest_script t (Some xs))) = join false (act false action.NO_MACHINES) (join false x.1.1 (join false c.1.1 y.1.1)) in
      text_by _ _ (system x.0 c.0 y.0 x.1.0 c.1.0 y.1.0)
      (subst (λ (w : List Symbol). G (Act action.NO_MACHINES ∷ (x.0 ++ w)) (Done action.NO_MACHINES ∷ (machines_script t.machines ++ rest_script t (Some xs)))) (sym (append_assoc c.0 first_controller end)) g)

  pub text_good : (t : RawText) → IsWholeText t → Fine (text_out t) → G (Part part.text ∷ []) (text_script t)
  text_good t u f = go t.order u.rest e.1
    where
      e : Fine (flat_map machine_entry t.machines) × Fine (rest_out t t.order)
      e = both (flat_map machine_entry t.machines) (rest_out t t.order) f.1

      go : (o : Option (List RawName)) → IsWholeRest t o → Fine (rest_out t o) → G (Part part.text ∷ []) (Done action.NO_MACHINES ∷ (machines_script t.machines ++ rest_script t o))
      go None r h = alone_good t.machines r u.machines e.0
      go (Some xs) r h = system_good t xs u.machines r e.0 h
