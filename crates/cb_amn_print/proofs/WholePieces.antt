-- Machines token by token: their text, and what is written for them.
use Rattle.std.proofs.Common.{◌≡◌, ℕ, Bool, true, false, List, [], ◌∷◌, ◌++◌, refl, ap, sym, ◌∙◌, arith, append_assoc, length}
use Rattle.std.specs.Prelude.{◌==◌, Option, Some, None}
use Rattle.std.specs.List.{flat_map}
use Rattle.std.proofs.lemmas.List.{append-nil, map-append}
use Rattle.cb_lex.specs.declared.token.Sort.TheVariants as sort
use Rattle.cb_lex.specs.declared.token.Keyword.{Keyword}
use Rattle.cb_lex.specs.declared.token.Keyword.TheVariants as keyword
use Rattle.cb_lex.specs.declared.token.Sign.TheVariants as sign
use Rattle.cb_lex.specs.declared.raw.name.RawName.{RawName}
use Rattle.cb_lex.specs.declared.raw.text.RawMachine.{RawMachine}
use Rattle.cb_lex.specs.declared.raw.text.RawSet.{RawSet}
use Rattle.cb_lex.specs.declared.raw.text.RawProperty.{RawProperty}
use Rattle.cb_lex.specs.declared.raw.text.RawState.{RawState}
use Rattle.cb_lex.specs.declared.raw.text.RawOperation.{RawOperation}
use Rattle.cb_lex.specs.RawTermTree.{RawFormulaTree}
use Rattle.cb_lex.specs.RawSubstTree.{RawSubstTree}
use Rattle.cb_grammar.specs.declared.actions.TheConstants as action
use Rattle.cb_amn_parse.specs.Lexemes.{Lexeme, Named, Did}
use Rattle.cb_amn_parse.specs.Formulas.{formula_out, names_out, condition_out}
use Rattle.cb_amn_parse.specs.Machines.{subst_out, set_entry, sets_out, property_entry, properties_out, state_out, operation_entry, operations_out, machine_out}
use Rattle.cb_amn_print.specs.Tokens.{said, only_if}
use Rattle.cb_shapes.specs.Full.{some}
use Rattle.cb_amn_print.specs.Machines.{names_text, set_text, sets_text, property_text, properties_text, state_text, body_text, operation_text, operations_text, part_text, machine_text}
use Rattle.cb_amn_print.specs.Printed.{unplaced}
use Rattle.cb_amn_print.proofs.Scripts.{Piece, Done, text_of, told_of, text-append, told-append, text-both}
use Rattle.cb_amn_print.proofs.Pieces.{open_piece, close_piece, formula_script, formula-text, formula-told, told-name, bare}
use Rattle.cb_amn_print.proofs.MachinePieces.{word, mark, name, names_script, names-text, names-told, literal_script, literal-text, literal-told, subst_script, subst-text, subst-told}

pub some_entry : {X : Type 0} (x : X) (xs : List X) → some (x ∷ xs) ≡ true
some_entry x xs = let e : (length (x ∷ xs) == 0) ≡ false = grind arith in rw e refl

-- ---- parts

abbrev pub named_part : Keyword → List RawName → List Piece
named_part k [] = Done action.NO_NAMES ∷ []
named_part k (x ∷ xs) = word k ∷ names_script (x ∷ xs)

named-part-text : (k : Keyword) (xs : List RawName) → text_of (named_part k xs) ≡ part_text (said (sort.Keyword k)) names_text xs
named-part-text k [] = refl
named-part-text k (x ∷ xs) =
    let a = names-text (x ∷ xs) in
    let b = some_entry x xs in
    rw b (ap (λ (t : List ℕ). said (sort.Keyword k) ++ t) a)

named-part-told : (k : Keyword) (xs : List RawName) → told_of (named_part k xs) ≡ bare (names_out xs)
named-part-told k [] = refl
named-part-told k (x ∷ xs) = names-told (x ∷ xs)

abbrev pub set_script : RawSet → List Piece
set_script s = name s.name ∷ (mark sign.Equal ∷ (mark sign.OpenBrace ∷ (names_script s.elements ++ (mark sign.CloseBrace ∷ (Done action.APPEND_SET ∷ [])))))

abbrev pub sets_rest : List RawSet → List Piece
sets_rest [] = []
sets_rest (s ∷ ss) = mark sign.Semicolon ∷ (set_script s ++ sets_rest ss)

abbrev pub sets_script : List RawSet → List Piece
sets_script [] = []
sets_script (s ∷ ss) = word keyword.Sets ∷ (set_script s ++ sets_rest ss)

set-text : (s : RawSet) → text_of (set_script s) ≡ set_text s
set-text s = let a = names-text s.elements in simp (text-append, a, append_assoc, append-nil) refl

set-told : (s : RawSet) → told_of (set_script s) ≡ bare (set_entry s)
set-told s = let a = names-told s.elements in let b = told-name s.name in simp (told-append, a, b, map-append) refl

sets-rest-text : (ss : List RawSet) → text_of (sets_rest ss) ≡ sets_text false ss
sets-rest-text [] = refl
sets-rest-text (s ∷ ss) = ap (λ (t : List ℕ). said (sort.Sign sign.Semicolon) ++ t) (text-both (set_script s) (sets_rest ss) (set_text s) (sets_text false ss) (set-text s) (sets-rest-text ss))

sets-text : (ss : List RawSet) → text_of (sets_script ss) ≡ part_text (said (sort.Keyword keyword.Sets)) sets_text ss
sets-text [] = refl
sets-text (s ∷ ss) =
    let c = some_entry s ss in
    rw c (ap (λ (t : List ℕ). said (sort.Keyword keyword.Sets) ++ t) (text-both (set_script s) (sets_rest ss) (set_text s) (sets_text false ss) (set-text s) (sets-rest-text ss)))

sets-rest-told : (ss : List RawSet) → told_of (sets_rest ss) ≡ bare (flat_map set_entry ss)
sets-rest-told [] = refl
sets-rest-told (s ∷ ss) = told-append (set_script s) (sets_rest ss) ∙ ap (λ (l : List Lexeme). l ++ told_of (sets_rest ss)) (set-told s) ∙ ap (λ (l : List Lexeme). bare (set_entry s) ++ l) (sets-rest-told ss) ∙ sym (map-append unplaced (set_entry s) (flat_map set_entry ss))

sets-told : (ss : List RawSet) → told_of (sets_script ss) ≡ bare (flat_map set_entry ss)
sets-told [] = refl
sets-told (s ∷ ss) = sets-rest-told (s ∷ ss)

abbrev pub property_script : RawProperty → List Piece
property_script p = name p.name ∷ (mark sign.Equal ∷ (literal_script p.literal ++ (Done action.APPEND_PROPERTY ∷ [])))

abbrev pub properties_rest : List RawProperty → List Piece
properties_rest [] = []
properties_rest (p ∷ ps) = mark sign.And ∷ (property_script p ++ properties_rest ps)

abbrev pub properties_script : List RawProperty → List Piece
properties_script [] = Done action.NO_PROPERTIES ∷ []
properties_script (p ∷ ps) = word keyword.Properties ∷ (Done action.NO_PROPERTIES ∷ (property_script p ++ properties_rest ps))

property-text : (p : RawProperty) → text_of (property_script p) ≡ property_text p
property-text p = let a = literal-text p.literal in simp (text-append, a, append_assoc, append-nil) refl

property-told : (p : RawProperty) → told_of (property_script p) ≡ bare (property_entry p)
property-told p = let a = literal-told p.literal in let b = told-name p.name in simp (told-append, a, b, map-append) refl

properties-rest-text : (ps : List RawProperty) → text_of (properties_rest ps) ≡ properties_text false ps
properties-rest-text [] = refl
properties-rest-text (p ∷ ps) = ap (λ (t : List ℕ). said (sort.Sign sign.And) ++ t) (text-both (property_script p) (properties_rest ps) (property_text p) (properties_text false ps) (property-text p) (properties-rest-text ps))

properties-text : (ps : List RawProperty) → text_of (properties_script ps) ≡ part_text (said (sort.Keyword keyword.Properties)) properties_text ps
properties-text [] = refl
properties-text (p ∷ ps) =
    let c = some_entry p ps in
    rw c (ap (λ (t : List ℕ). said (sort.Keyword keyword.Properties) ++ t) (text-both (property_script p) (properties_rest ps) (property_text p) (properties_text false ps) (property-text p) (properties-rest-text ps)))

properties-rest-told : (ps : List RawProperty) → told_of (properties_rest ps) ≡ bare (flat_map property_entry ps)
properties-rest-told [] = refl
properties-rest-told (p ∷ ps) = told-append (property_script p) (properties_rest ps) ∙ ap (λ (l : List Lexeme). l ++ told_of (properties_rest ps)) (property-told p) ∙ ap (λ (l : List Lexeme). bare (property_entry p) ++ l) (properties-rest-told ps) ∙ sym (map-append unplaced (property_entry p) (flat_map property_entry ps))

properties-told : (ps : List RawProperty) → told_of (properties_script ps) ≡ bare (properties_out ps)
properties-told [] = refl
properties-told (p ∷ ps) = ap (λ (l : List Lexeme). Did action.NO_PROPERTIES ∷ l) (properties-rest-told (p ∷ ps))

abbrev pub state_script : Option RawState → List Piece
state_script None = Done action.NO_STATE ∷ []
state_script (Some s) =
    word keyword.Variables ∷ (names_script s.variables ++ (word keyword.Invariant ∷ (formula_script false s.invariant ++ (word keyword.Initialisation ∷ (subst_script false s.initialisation ++ (Done action.SOME_STATE ∷ []))))))

state-text : (s : Option RawState) → text_of (state_script s) ≡ state_text s
state-text None = refl
state-text (Some s) =
    let a = names-text s.variables in
    let b = formula-text false s.invariant in
    let c = subst-text false s.initialisation in
    simp (text-append, a, b, c, append_assoc, append-nil) refl

three : (a b c d : List Lexeme) → bare (((a ++ b) ++ c) ++ d) ≡ bare a ++ (bare b ++ (bare c ++ bare d))
three a b c d = simp (map-append, append_assoc) refl

state-told : (s : Option RawState) → told_of (state_script s) ≡ bare (state_out s)
state-told None = refl
state-told (Some s) =
    let a = names-told s.variables in
    let b = formula-told false s.invariant in
    let c = subst-told false s.initialisation in
    let l : told_of (state_script (Some s)) ≡ bare (names_out s.variables) ++ (bare (formula_out s.invariant) ++ (bare (subst_out s.initialisation) ++ (Did action.SOME_STATE ∷ []))) = simp (told-append, a, b, c) refl in
    l ∙ sym (three (names_out s.variables) (formula_out s.invariant) (subst_out s.initialisation) (Did action.SOME_STATE ∷ []))

abbrev pub results_script : List RawName → List Piece
results_script [] = Done action.NO_NAMES ∷ []
results_script (x ∷ xs) = names_script (x ∷ xs) ++ (mark sign.Returns ∷ [])

abbrev pub parameters_script : List RawName → List Piece
parameters_script [] = Done action.NO_NAMES ∷ []
parameters_script (x ∷ xs) = open_piece ∷ (names_script (x ∷ xs) ++ (close_piece ∷ []))

abbrev pub body_script : Option RawFormulaTree → RawSubstTree → List Piece
body_script None s = Done action.NO_CONDITION ∷ subst_script false s
body_script (Some f) s = word keyword.Pre ∷ (formula_script false f ++ (Done action.SOME_CONDITION ∷ (word keyword.Then ∷ (subst_script false s ++ (word keyword.End ∷ [])))))

abbrev pub operation_script : RawOperation → List Piece
operation_script o = results_script o.results ++ (name o.name ∷ (parameters_script o.parameters ++ (mark sign.Equal ∷ (body_script o.precondition o.body ++ (Done action.APPEND_OPERATION ∷ [])))))

results-text : (xs : List RawName) → text_of (results_script xs) ≡ names_text true xs ++ only_if (some xs) (said (sort.Sign sign.Returns))
results-text [] = refl
results-text (x ∷ xs) =
    let a = names-text (x ∷ xs) in
    let c = some_entry x xs in
    text-append (names_script (x ∷ xs)) (mark sign.Returns ∷ []) ∙ ap (λ (t : List ℕ). t ++ said (sort.Sign sign.Returns)) a ∙ ap (λ (b : Bool). names_text true (x ∷ xs) ++ only_if b (said (sort.Sign sign.Returns))) (sym c)

parameters-text : (xs : List RawName) → text_of (parameters_script xs) ≡ only_if (some xs) (said (sort.Sign sign.OpenParenthesis)) ++ (names_text true xs ++ only_if (some xs) (said (sort.Sign sign.CloseParenthesis)))
parameters-text [] = refl
parameters-text (x ∷ xs) =
    let a = names-text (x ∷ xs) in
    let c = some_entry x xs in
    ap (λ (t : List ℕ). said (sort.Sign sign.OpenParenthesis) ++ t) (text-append (names_script (x ∷ xs)) (close_piece ∷ []) ∙ ap (λ (t : List ℕ). t ++ said (sort.Sign sign.CloseParenthesis)) a)
    ∙ ap (λ (b : Bool). only_if b (said (sort.Sign sign.OpenParenthesis)) ++ (names_text true (x ∷ xs) ++ only_if b (said (sort.Sign sign.CloseParenthesis)))) (sym c)

body-text : (f : Option RawFormulaTree) (s : RawSubstTree) → text_of (body_script f s) ≡ body_text f s
body-text None s = subst-text false s
body-text (Some f) s = let a = formula-text false f in let b = subst-text false s in simp (text-append, a, b, append_assoc, append-nil) refl

operation-text : (o : RawOperation) → text_of (operation_script o) ≡ operation_text o
operation-text o =
    let a = results-text o.results in
    let b = parameters-text o.parameters in
    let c = body-text o.precondition o.body in
    simp (text-append, a, b, c, append_assoc, append-nil) refl

results-told : (xs : List RawName) → told_of (results_script xs) ≡ bare (names_out xs)
results-told [] = refl
results-told (x ∷ xs) = told-append (names_script (x ∷ xs)) (mark sign.Returns ∷ []) ∙ append-nil (told_of (names_script (x ∷ xs))) ∙ names-told (x ∷ xs)

parameters-told : (xs : List RawName) → told_of (parameters_script xs) ≡ bare (names_out xs)
parameters-told [] = refl
parameters-told (x ∷ xs) = told-append (names_script (x ∷ xs)) (close_piece ∷ []) ∙ append-nil (told_of (names_script (x ∷ xs))) ∙ names-told (x ∷ xs)

body-told : (f : Option RawFormulaTree) (s : RawSubstTree) → told_of (body_script f s) ≡ bare (condition_out f) ++ bare (subst_out s)
body-told None s = ap (λ (l : List Lexeme). Did action.NO_CONDITION ∷ l) (subst-told false s)
body-told (Some f) s = let a = formula-told false f in let b = subst-told false s in simp (told-append, a, b, map-append, append_assoc, append-nil) refl

five : (a b c d e : List Lexeme) → bare ((((a ++ b) ++ c) ++ d) ++ e) ≡ bare a ++ (bare b ++ ((bare c ++ bare d) ++ bare e))
five a b c d e = simp (map-append, append_assoc) refl

operation-told : (o : RawOperation) → told_of (operation_script o) ≡ bare (operation_entry o)
operation-told o =
    let a = results-told o.results in
    let b = parameters-told o.parameters in
    let c = body-told o.precondition o.body in
    let d = told-name o.name in
    let l : told_of (operation_script o) ≡ bare (names_out o.results) ++ (bare (Named o.name ∷ names_out o.parameters) ++ ((bare (condition_out o.precondition) ++ bare (subst_out o.body)) ++ (Did action.APPEND_OPERATION ∷ []))) = simp (told-append, a, b, c, d) refl in
    l ∙ sym (five (names_out o.results) (Named o.name ∷ names_out o.parameters) (condition_out o.precondition) (subst_out o.body) (Did action.APPEND_OPERATION ∷ []))

abbrev pub operations_rest : List RawOperation → List Piece
operations_rest [] = []
operations_rest (o ∷ os) = mark sign.Semicolon ∷ (operation_script o ++ operations_rest os)

abbrev pub operations_script : List RawOperation → List Piece
operations_script [] = []
operations_script (o ∷ os) = word keyword.Operations ∷ (operation_script o ++ operations_rest os)

operations-rest-text : (os : List RawOperation) → text_of (operations_rest os) ≡ operations_text false os
operations-rest-text [] = refl
operations-rest-text (o ∷ os) = ap (λ (t : List ℕ). said (sort.Sign sign.Semicolon) ++ t) (text-append (operation_script o) (operations_rest os) ∙ ap (λ (t : List ℕ). t ++ text_of (operations_rest os)) (operation-text o) ∙ ap (λ (t : List ℕ). operation_text o ++ t) (operations-rest-text os))

operations-text : (os : List RawOperation) → text_of (operations_script os) ≡ part_text (said (sort.Keyword keyword.Operations)) operations_text os
operations-text [] = refl
operations-text (o ∷ os) =
    let c = some_entry o os in
    rw c (ap (λ (t : List ℕ). said (sort.Keyword keyword.Operations) ++ t) (text-append (operation_script o) (operations_rest os) ∙ ap (λ (t : List ℕ). t ++ text_of (operations_rest os)) (operation-text o) ∙ ap (λ (t : List ℕ). operation_text o ++ t) (operations-rest-text os)))

operations-rest-told : (os : List RawOperation) → told_of (operations_rest os) ≡ bare (flat_map operation_entry os)
operations-rest-told [] = refl
operations-rest-told (o ∷ os) = told-append (operation_script o) (operations_rest os) ∙ ap (λ (l : List Lexeme). l ++ told_of (operations_rest os)) (operation-told o) ∙ ap (λ (l : List Lexeme). bare (operation_entry o) ++ l) (operations-rest-told os) ∙ sym (map-append unplaced (operation_entry o) (flat_map operation_entry os))

operations-told : (os : List RawOperation) → told_of (operations_script os) ≡ bare (flat_map operation_entry os)
operations-told [] = refl
operations-told (o ∷ os) = operations-rest-told (o ∷ os)

-- ---- a machine

abbrev pub machine_script : RawMachine → List Piece
machine_script m =
    word keyword.Machine ∷ (name m.name ∷ (named_part keyword.Sees m.sees ++ (Done action.NO_SETS ∷ (sets_script m.sets ++ (named_part keyword.Constants m.constants ++ (properties_script m.properties ++ (state_script m.state
    ++ (Done action.NO_OPERATIONS ∷ (operations_script m.operations ++ (word keyword.End ∷ (Done action.MACHINE ∷ [])))))))))))

pub machine-text : (m : RawMachine) → text_of (machine_script m) ≡ machine_text m
machine-text m =
    let a = named-part-text keyword.Sees m.sees in
    let b = sets-text m.sets in
    let c = named-part-text keyword.Constants m.constants in
    let d = properties-text m.properties in
    let e = state-text m.state in
    let f = operations-text m.operations in
    simp (text-append, a, b, c, d, e, f, append_assoc, append-nil) refl

seven : (a b c d e f g : List Lexeme) → bare ((((((a ++ b) ++ c) ++ d) ++ e) ++ f) ++ g) ≡ bare a ++ (bare b ++ (bare c ++ (bare d ++ (bare e ++ (bare f ++ bare g)))))
seven a b c d e f g = simp (map-append, append_assoc) refl

pub machine-told : (m : RawMachine) → told_of (machine_script m) ≡ bare (machine_out m)
machine-told m =
    let a = named-part-told keyword.Sees m.sees in
    let b = sets-told m.sets in
    let c = named-part-told keyword.Constants m.constants in
    let d = properties-told m.properties in
    let e = state-told m.state in
    let f = operations-told m.operations in
    let x = told-name m.name in
    let l : told_of (machine_script m) ≡ bare (Named m.name ∷ names_out m.sees) ++ (bare (sets_out m.sets) ++ (bare (names_out m.constants) ++ (bare (properties_out m.properties) ++ (bare (state_out m.state) ++ (bare (operations_out m.operations) ++ (Did action.MACHINE ∷ [])))))) = simp (told-append, a, b, c, d, e, f, x) refl in
    l ∙ sym (seven (Named m.name ∷ names_out m.sees) (sets_out m.sets) (names_out m.constants) (properties_out m.properties) (state_out m.state) (operations_out m.operations) (Did action.MACHINE ∷ []))
