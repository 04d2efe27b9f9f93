-- Channels, controllers and texts token by token: their text, and what is written for them.
use Rattle.std.proofs.Common.{◌≡◌, ℕ, true, false, List, [], ◌∷◌, ◌++◌, refl, ap, sym, ◌∙◌, append_assoc}
use Rattle.std.specs.Prelude.{Option, Some, None}
use Rattle.std.specs.List.{flat_map}
use Rattle.std.proofs.lemmas.List.{append-nil, map-append}
use Rattle.cb_lex.specs.declared.token.Sort.TheVariants as sort
use Rattle.cb_lex.specs.declared.token.Keyword.TheVariants as keyword
use Rattle.cb_lex.specs.declared.token.Sign.TheVariants as sign
use Rattle.cb_lex.specs.declared.raw.domain.RawParam.{RawParam}
use Rattle.cb_lex.specs.declared.raw.domain.RawParam.TheVariants as param
use Rattle.cb_lex.specs.declared.raw.name.RawName.{RawName}
use Rattle.cb_lex.specs.declared.raw.text.RawChannel.{RawChannel}
use Rattle.cb_lex.specs.declared.raw.text.RawController.{RawController}
use Rattle.cb_lex.specs.declared.raw.text.RawDefinition.{RawDefinition}
use Rattle.cb_lex.specs.declared.raw.text.RawMachine.{RawMachine}
use Rattle.cb_lex.specs.declared.raw.text.RawText.{RawText}
use Rattle.cb_lex.specs.RawTermTree.{RawFormulaTree}
use Rattle.cb_grammar.specs.declared.actions.TheConstants as action
use Rattle.cb_amn_parse.specs.Lexemes.{Lexeme, Named, Did}
use Rattle.cb_amn_parse.specs.Formulas.{formula_out, terms_out, names_out, condition_out}
use Rattle.cb_amn_parse.specs.Machines.{machine_out}
use Rattle.cb_amn_parse.specs.Processes.{process_out, parameter_out, parameter_entry, parameters_out, definition_entry, definitions_out, controller_out, controller_entry, controllers_out, channel_entry, channels_out, machine_entry, rest_out, text_out}
use Rattle.cb_amn_print.specs.Tokens.{said}
use Rattle.cb_amn_print.specs.Machines.{names_text, part_text, machine_text}
use Rattle.cb_amn_print.specs.Printed.{unplaced}
use Rattle.cb_amn_print.proofs.Scripts.{Piece, Done, text_of, told_of, text-append, told-append, text-both, told-both}
use Rattle.cb_amn_print.proofs.Pieces.{open_piece, close_piece, formula_script, formula-text, formula-told, told-name, bare}
use Rattle.cb_amn_print.proofs.MachinePieces.{word, mark, name, names_script, names-text, names-told, domain_script, domain-text, domain-told}
use Rattle.cb_amn_print.proofs.WholePieces.{some_entry, machine_script, machine-text, machine-told}
use Rattle.cb_text_print.specs.Texts.{where_text, channel_text, each_channel_text, channels_text, parameter_text, each_parameter_text, parameters_text, invariant_text, definition_text, definitions_text, head_text, controller_text, rest_text, text_text}
use Rattle.cb_text_print.proofs.Pieces.{told-closed, ended_names, ended-names-text, ended-names-told, given_script, given-text, given-told, process_script, process-text, process-told}

-- one entry and the others

told-first : (p q : List Piece) (a b : List Lexeme) → told_of p ≡ bare a → told_of q ≡ bare b → told_of (p ++ q) ≡ bare (a ++ b)
told-first p q a b e f = told-both p q (bare a) (bare b) e f ∙ sym (map-append unplaced a b)

-- ---- channels

abbrev pub where_script : Option RawFormulaTree → List Piece
where_script None = Done action.NO_CONDITION ∷ []
where_script (Some f) = word keyword.Where ∷ (formula_script false f ++ (Done action.SOME_CONDITION ∷ []))

where-text : (f : Option RawFormulaTree) → text_of (where_script f) ≡ where_text f
where-text None = refl
where-text (Some f) = let a = formula-text false f in simp (text-append, a, append-nil) refl

where-told : (f : Option RawFormulaTree) → told_of (where_script f) ≡ bare (condition_out f)
where-told None = refl
where-told (Some f) = told-first (formula_script false f) (Done action.SOME_CONDITION ∷ []) (formula_out f) (Did action.SOME_CONDITION ∷ []) (formula-told false f) refl

abbrev pub channel_script : RawChannel → List Piece
channel_script c = name c.name ∷ (open_piece ∷ (ended_names c.values ++ (where_script c.condition ++ (Done action.APPEND_CHANNEL ∷ []))))

abbrev pub channels_rest : List RawChannel → List Piece
channels_rest [] = []
channels_rest (c ∷ cs) = mark sign.Semicolon ∷ (channel_script c ++ channels_rest cs)

abbrev pub channels_script : List RawChannel → List Piece
channels_script [] = Done action.NO_CHANNELS ∷ []
channels_script (c ∷ cs) = word keyword.Channels ∷ (Done action.NO_CHANNELS ∷ (channel_script c ++ (channels_rest cs ++ (word keyword.End ∷ []))))

channel-text : (c : RawChannel) → text_of (channel_script c) ≡ channel_text c
channel-text c =
    let a = ended-names-text c.values in
    let b = where-text c.condition in
    simp (text-append, a, b, append_assoc, append-nil) refl

three : (l : Lexeme) (a b e : List Lexeme) → bare (((l ∷ a) ++ b) ++ e) ≡ unplaced l ∷ (bare a ++ (bare b ++ bare e))
three l a b e =
    map-append unplaced ((l ∷ a) ++ b) e ∙ ap (λ (x : List Lexeme). x ++ bare e) (map-append unplaced (l ∷ a) b) ∙ append_assoc (unplaced l ∷ bare a) (bare b) (bare e)

channel-told : (c : RawChannel) → told_of (channel_script c) ≡ bare (channel_entry c)
channel-told c =
    let a = ended-names-told c.values in
    let b = where-told c.condition in
    let d = told-name c.name in
    let l : told_of (channel_script c) ≡ unplaced (Named c.name) ∷ (bare (names_out c.values) ++ (bare (condition_out c.condition) ++ (Did action.APPEND_CHANNEL ∷ []))) = simp (told-append, a, b, d) refl in
    l ∙ sym (three (Named c.name) (names_out c.values) (condition_out c.condition) (Did action.APPEND_CHANNEL ∷ []))

channels-rest-text : (cs : List RawChannel) → text_of (channels_rest cs) ≡ each_channel_text false cs
channels-rest-text [] = refl
channels-rest-text (c ∷ cs) =
    let a = channel-text c in
    let b = channels-rest-text cs in
    ap (λ (t : List ℕ). said (sort.Sign sign.Semicolon) ++ t) (text-both (channel_script c) (channels_rest cs) _ _ a b) ∙ sym (append_assoc (said (sort.Sign sign.Semicolon)) (channel_text c) (each_channel_text false cs))

grouped : (w c e n : List ℕ) → w ++ (c ++ (e ++ n)) ≡ (w ++ (c ++ e)) ++ n
grouped w c e n = simp append_assoc refl

channels-text : (cs : List RawChannel) → text_of (channels_script cs) ≡ channels_text cs
channels-text [] = refl
channels-text (c ∷ cs) =
    let d = some_entry c cs in
    let e = text-both (channels_rest cs) (word keyword.End ∷ []) (each_channel_text false cs) (said (sort.Keyword keyword.End)) (channels-rest-text cs) refl in
    let a = text-both (channel_script c) (channels_rest cs ++ (word keyword.End ∷ [])) (channel_text c) (each_channel_text false cs ++ said (sort.Keyword keyword.End)) (channel-text c) e in
    rw d (ap (λ (t : List ℕ). said (sort.Keyword keyword.Channels) ++ t) a ∙ grouped (said (sort.Keyword keyword.Channels)) (channel_text c) (each_channel_text false cs) (said (sort.Keyword keyword.End)))

channels-rest-told : (cs : List RawChannel) → told_of (channels_rest cs) ≡ bare (flat_map channel_entry cs)
channels-rest-told [] = refl
channels-rest-told (c ∷ cs) = told-first (channel_script c) (channels_rest cs) (channel_entry c) (flat_map channel_entry cs) (channel-told c) (channels-rest-told cs)

channels-told : (cs : List RawChannel) → told_of (channels_script cs) ≡ bare (channels_out cs)
channels-told [] = refl
channels-told (c ∷ cs) =
    let b : told_of (channels_rest cs ++ (word keyword.End ∷ [])) ≡ bare (flat_map channel_entry cs) = told-append (channels_rest cs) (word keyword.End ∷ []) ∙ append-nil (told_of (channels_rest cs)) ∙ channels-rest-told cs in
    ap (λ (l : List Lexeme). Did action.NO_CHANNELS ∷ l) (told-first (channel_script c) (channels_rest cs ++ (word keyword.End ∷ [])) (channel_entry c) (flat_map channel_entry cs) (channel-told c) b)

-- ---- definitions

abbrev pub parameter_script : RawParam → List Piece
parameter_script (param.Member x d) = name x ∷ (mark sign.Member ∷ (domain_script d ++ (Done action.PARAMETER_IN ∷ [])))
parameter_script (param.Subset x d) = name x ∷ (mark sign.Subset ∷ (domain_script d ++ (Done action.PARAMETER_SUBSET ∷ [])))

abbrev pub parameters_rest : List RawParam → List Piece
parameters_rest [] = []
parameters_rest (p ∷ ps) = mark sign.Comma ∷ (parameter_script p ++ (Done action.APPEND_PARAMETER ∷ parameters_rest ps))

-- in parentheses where there are any
abbrev pub parameters_script : List RawParam → List Piece
parameters_script [] = []
parameters_script (p ∷ ps) = open_piece ∷ ((parameter_script p ++ (Done action.APPEND_PARAMETER ∷ parameters_rest ps)) ++ (close_piece ∷ []))

parameter-text : (p : RawParam) → text_of (parameter_script p) ≡ parameter_text p
parameter-text (param.Member x d) = let a = domain-text d in simp (text-append, a, append_assoc, append-nil) refl
parameter-text (param.Subset x d) = let a = domain-text d in simp (text-append, a, append_assoc, append-nil) refl

parameter-told : (p : RawParam) → told_of (parameter_script p) ≡ bare (parameter_out p)
parameter-told (param.Member x d) = let a = domain-told d in let b = told-name x in simp (told-append, a, b, map-append) refl
parameter-told (param.Subset x d) = let a = domain-told d in let b = told-name x in simp (told-append, a, b, map-append) refl

parameters-rest-text : (ps : List RawParam) → text_of (parameters_rest ps) ≡ each_parameter_text false ps
parameters-rest-text [] = refl
parameters-rest-text (p ∷ ps) =
    let a = parameter-text p in
    let b = parameters-rest-text ps in
    simp (text-append, a, b, append_assoc) refl

parameters-text : (ps : List RawParam) → text_of (parameters_script ps) ≡ parameters_text ps
parameters-text [] = refl
parameters-text (p ∷ ps) =
    let a = parameter-text p in
    let b = parameters-rest-text ps in
    let d = some_entry p ps in
    rw d (simp (text-append, a, b, append_assoc, append-nil) refl)

entry_told : (p : RawParam) (q : List Piece) (ls : List Lexeme) → told_of q ≡ bare ls → told_of (parameter_script p ++ (Done action.APPEND_PARAMETER ∷ q)) ≡ bare (parameter_entry p ++ ls)
entry_told p q ls e =
    let a : told_of (Done action.APPEND_PARAMETER ∷ q) ≡ bare (Did action.APPEND_PARAMETER ∷ ls) = ap (λ (l : List Lexeme). Did action.APPEND_PARAMETER ∷ l) e in
    told-first (parameter_script p) (Done action.APPEND_PARAMETER ∷ q) (parameter_out p) (Did action.APPEND_PARAMETER ∷ ls) (parameter-told p) a
    ∙ ap bare (sym (append_assoc (parameter_out p) (Did action.APPEND_PARAMETER ∷ []) ls))

parameters-rest-told : (ps : List RawParam) → told_of (parameters_rest ps) ≡ bare (flat_map parameter_entry ps)
parameters-rest-told [] = refl
parameters-rest-told (p ∷ ps) = entry_told p (parameters_rest ps) (flat_map parameter_entry ps) (parameters-rest-told ps)

parameters-told : (ps : List RawParam) → told_of (parameters_script ps) ≡ bare (flat_map parameter_entry ps)
parameters-told [] = refl
parameters-told (p ∷ ps) = told-closed (parameter_script p ++ (Done action.APPEND_PARAMETER ∷ parameters_rest ps)) ∙ parameters-rest-told (p ∷ ps)

abbrev pub invariant_script : Option RawFormulaTree → List Piece
invariant_script None = Done action.NO_CONDITION ∷ []
invariant_script (Some f) = word keyword.Inv ∷ (open_piece ∷ (formula_script false f ++ (close_piece ∷ (Done action.SOME_CONDITION ∷ []))))

invariant-text : (f : Option RawFormulaTree) → text_of (invariant_script f) ≡ invariant_text f
invariant-text None = refl
invariant-text (Some f) = let a = formula-text false f in simp (text-append, a, append_assoc, append-nil) refl

invariant-told : (f : Option RawFormulaTree) → told_of (invariant_script f) ≡ bare (condition_out f)
invariant-told None = refl
invariant-told (Some f) = told-first (formula_script false f) (close_piece ∷ (Done action.SOME_CONDITION ∷ [])) (formula_out f) (Did action.SOME_CONDITION ∷ []) (formula-told false f) refl

abbrev pub definition_script : RawDefinition → List Piece
definition_script d = name d.name ∷ (Done action.NO_PARAMETERS ∷ (parameters_script d.parameters ++ (invariant_script d.invariant ++ (mark sign.Equal ∷ (process_script false d.process ++ (Done action.APPEND_DEFINITION ∷ []))))))

abbrev pub definitions_rest : List RawDefinition → List Piece
definitions_rest [] = []
definitions_rest (d ∷ ds) = mark sign.Semicolon ∷ (definition_script d ++ definitions_rest ds)

abbrev pub definitions_script : List RawDefinition → List Piece
definitions_script [] = []
definitions_script (d ∷ ds) = definition_script d ++ definitions_rest ds

definition-text : (d : RawDefinition) → text_of (definition_script d) ≡ definition_text d
definition-text d =
    let a = parameters-text d.parameters in
    let b = invariant-text d.invariant in
    let c = process-text false d.process in
    simp (text-append, a, b, c, append_assoc, append-nil) refl

four : (l : Lexeme) (a b c e : List Lexeme) → bare ((((l ∷ a) ++ b) ++ c) ++ e) ≡ unplaced l ∷ (bare a ++ (bare b ++ (bare c ++ bare e)))
four l a b c e =
    map-append unplaced (((l ∷ a) ++ b) ++ c) e ∙ ap (λ (x : List Lexeme). x ++ bare e) (three l a b c) ∙ append_assoc (unplaced l ∷ bare a) (bare b ++ bare c) (bare e)
    ∙ ap (λ (x : List Lexeme). (unplaced l ∷ bare a) ++ x) (append_assoc (bare b) (bare c) (bare e))

definition-told : (d : RawDefinition) → told_of (definition_script d) ≡ bare (definition_entry d)
definition-told d =
    let a = parameters-told d.parameters in
    let b = invariant-told d.invariant in
    let c = process-told false d.process in
    let x = told-name d.name in
    let l : told_of (definition_script d) ≡ unplaced (Named d.name) ∷ (bare (parameters_out d.parameters) ++ (bare (condition_out d.invariant) ++ (bare (process_out d.process) ++ (Did action.APPEND_DEFINITION ∷ [])))) = simp (told-append, a, b, c, x) refl in
    l ∙ sym (four (Named d.name) (parameters_out d.parameters) (condition_out d.invariant) (process_out d.process) (Did action.APPEND_DEFINITION ∷ []))

definitions-rest-text : (ds : List RawDefinition) → text_of (definitions_rest ds) ≡ definitions_text false ds
definitions-rest-text [] = refl
definitions-rest-text (d ∷ ds) =
    let a = definition-text d in
    let b = definitions-rest-text ds in
    ap (λ (t : List ℕ). said (sort.Sign sign.Semicolon) ++ t) (text-both (definition_script d) (definitions_rest ds) _ _ a b) ∙ sym (append_assoc (said (sort.Sign sign.Semicolon)) (definition_text d) (definitions_text false ds))

definitions-text : (ds : List RawDefinition) → text_of (definitions_script ds) ≡ definitions_text true ds
definitions-text [] = refl
definitions-text (d ∷ ds) = text-both (definition_script d) (definitions_rest ds) _ _ (definition-text d) (definitions-rest-text ds)

definitions-rest-told : (ds : List RawDefinition) → told_of (definitions_rest ds) ≡ bare (flat_map definition_entry ds)
definitions-rest-told [] = refl
definitions-rest-told (d ∷ ds) = told-first (definition_script d) (definitions_rest ds) (definition_entry d) (flat_map definition_entry ds) (definition-told d) (definitions-rest-told ds)

definitions-told : (ds : List RawDefinition) → told_of (definitions_script ds) ≡ bare (flat_map definition_entry ds)
definitions-told [] = refl
definitions-told (d ∷ ds) = definitions-rest-told (d ∷ ds)

-- ---- controllers

abbrev pub machines_part : List RawName → List Piece
machines_part [] = Done action.NO_NAMES ∷ []
machines_part (x ∷ xs) = word keyword.Machines ∷ names_script (x ∷ xs)

machines-part-text : (xs : List RawName) → text_of (machines_part xs) ≡ part_text (said (sort.Keyword keyword.Machines)) names_text xs
machines-part-text [] = refl
machines-part-text (x ∷ xs) =
    let a = names-text (x ∷ xs) in
    let b = some_entry x xs in
    rw b (ap (λ (t : List ℕ). said (sort.Keyword keyword.Machines) ++ t) a)

machines-part-told : (xs : List RawName) → told_of (machines_part xs) ≡ bare (names_out xs)
machines-part-told [] = refl
machines-part-told (x ∷ xs) = names-told (x ∷ xs)

abbrev pub controller_script : RawController → List Piece
controller_script c =
    word keyword.Controller ∷ (name c.name ∷ (machines_part c.machines ++ (word keyword.Start ∷ (name c.start.name ∷ (Done action.NO_TERMS ∷ (given_script c.start.arguments ++ (word keyword.Processes ∷ (Done action.NO_DEFINITIONS
    ∷ (definitions_script c.definitions ++ (word keyword.End ∷ (Done action.CONTROLLER ∷ [])))))))))))

controller-text : (c : RawController) → text_of (controller_script c) ≡ controller_text c
unfolding head_text
controller-text c =
    let a = machines-part-text c.machines in
    let b = given-text c.start.arguments in
    let d = definitions-text c.definitions in
    simp (text-append, a, b, d, append_assoc, append-nil) refl

controller-told : (c : RawController) → told_of (controller_script c) ≡ bare (controller_out c)
controller-told c =
    let a = machines-part-told c.machines in
    let b = given-told c.start.arguments in
    let d = definitions-told c.definitions in
    let x = told-name c.name in
    let y = told-name c.start.name in
    let l : told_of (controller_script c) ≡ unplaced (Named c.name) ∷ (bare (names_out c.machines) ++ (bare (Named c.start.name ∷ terms_out c.start.arguments) ++ (bare (definitions_out c.definitions) ++ (Did action.CONTROLLER ∷ [])))) = simp (told-append, a, b, d, x, y) refl in
    l ∙ sym (four (Named c.name) (names_out c.machines) (Named c.start.name ∷ terms_out c.start.arguments) (definitions_out c.definitions) (Did action.CONTROLLER ∷ []))

abbrev pub controllers_script : List RawController → List Piece
controllers_script [] = []
controllers_script (c ∷ cs) = controller_script c ++ (Done action.APPEND_CONTROLLER ∷ controllers_script cs)

controllers-text : (cs : List RawController) → text_of (controllers_script cs) ≡ flat_map controller_text cs
controllers-text [] = refl
controllers-text (c ∷ cs) = text-both (controller_script c) (Done action.APPEND_CONTROLLER ∷ controllers_script cs) _ _ (controller-text c) (controllers-text cs)

controllers-told : (cs : List RawController) → told_of (controllers_script cs) ≡ bare (flat_map controller_entry cs)
controllers-told [] = refl
controllers-told (c ∷ cs) =
    let a : told_of (Done action.APPEND_CONTROLLER ∷ controllers_script cs) ≡ bare (Did action.APPEND_CONTROLLER ∷ flat_map controller_entry cs) = ap (λ (l : List Lexeme). Did action.APPEND_CONTROLLER ∷ l) (controllers-told cs) in
    told-first (controller_script c) (Done action.APPEND_CONTROLLER ∷ controllers_script cs) (controller_out c) (Did action.APPEND_CONTROLLER ∷ flat_map controller_entry cs) (controller-told c) a
    ∙ ap bare (sym (append_assoc (controller_out c) (Did action.APPEND_CONTROLLER ∷ []) (flat_map controller_entry cs)))

-- ---- texts

abbrev pub machines_script : List RawMachine → List Piece
machines_script [] = []
machines_script (m ∷ ms) = machine_script m ++ (Done action.APPEND_MACHINE ∷ machines_script ms)

abbrev pub order_script : List RawName → List Piece
order_script xs = word keyword.System ∷ (names_script xs ++ (word keyword.End ∷ (Done action.SYSTEM ∷ [])))

abbrev pub rest_script : RawText → Option (List RawName) → List Piece
rest_script t None = Done action.MACHINES_ALONE ∷ []
rest_script t (Some order) = channels_script t.channels ++ (Done action.NO_CONTROLLERS ∷ (controllers_script t.controllers ++ order_script order))

abbrev pub text_script : RawText → List Piece
text_script t = Done action.NO_MACHINES ∷ (machines_script t.machines ++ rest_script t t.order)

machines-text : (ms : List RawMachine) → text_of (machines_script ms) ≡ flat_map machine_text ms
machines-text [] = refl
machines-text (m ∷ ms) = text-both (machine_script m) (Done action.APPEND_MACHINE ∷ machines_script ms) _ _ (machine-text m) (machines-text ms)

machines-told : (ms : List RawMachine) → told_of (machines_script ms) ≡ bare (flat_map machine_entry ms)
machines-told [] = refl
machines-told (m ∷ ms) =
    let a : told_of (Done action.APPEND_MACHINE ∷ machines_script ms) ≡ bare (Did action.APPEND_MACHINE ∷ flat_map machine_entry ms) = ap (λ (l : List Lexeme). Did action.APPEND_MACHINE ∷ l) (machines-told ms) in
    told-first (machine_script m) (Done action.APPEND_MACHINE ∷ machines_script ms) (machine_out m) (Did action.APPEND_MACHINE ∷ flat_map machine_entry ms) (machine-told m) a
    ∙ ap bare (sym (append_assoc (machine_out m) (Did action.APPEND_MACHINE ∷ []) (flat_map machine_entry ms)))

rest-text : (t : RawText) (o : Option (List RawName)) → text_of (rest_script t o) ≡ rest_text t o
rest-text t None = refl
rest-text t (Some order) =
    let a = channels-text t.channels in
    let b = controllers-text t.controllers in
    let c = names-text order in
    simp (text-append, a, b, c, append_assoc, append-nil) refl

system_told : (a b c e : List Lexeme) → bare (((a ++ b) ++ c) ++ e) ≡ bare a ++ (bare b ++ (bare c ++ bare e))
system_told a b c e = simp (map-append, append_assoc) refl

rest-told : (t : RawText) (o : Option (List RawName)) → told_of (rest_script t o) ≡ bare (rest_out t o)
rest-told t None = refl
rest-told t (Some order) =
    let a = channels-told t.channels in
    let b = controllers-told t.controllers in
    let c = names-told order in
    let l : told_of (rest_script t (Some order)) ≡ bare (channels_out t.channels) ++ (bare (controllers_out t.controllers) ++ (bare (names_out order) ++ (Did action.SYSTEM ∷ []))) = simp (told-append, a, b, c) refl in
    l ∙ sym (system_told (channels_out t.channels) (controllers_out t.controllers) (names_out order) (Did action.SYSTEM ∷ []))

pub text-text : (t : RawText) → text_of (text_script t) ≡ text_text t
text-text t = text-both (machines_script t.machines) (rest_script t t.order) _ _ (machines-text t.machines) (rest-text t t.order)

pub text-told : (t : RawText) → told_of (text_script t) ≡ bare (text_out t)
text-told t = ap (λ (l : List Lexeme). Did action.NO_MACHINES ∷ l) (told-first (machines_script t.machines) (rest_script t t.order) (flat_map machine_entry t.machines) (rest_out t t.order) (machines-told t.machines) (rest-told t t.order))
