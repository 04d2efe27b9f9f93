-- Events and processes token by token: their text, and what is written for them.
use Rattle.std.proofs.Common.{◌≡◌, ℕ, Bool, true, false, List, [], ◌∷◌, ◌++◌, refl, ap, sym, ◌∙◌, append_assoc}
use Rattle.std.specs.Prelude.{not, Option, Some, None}
use Rattle.std.proofs.lemmas.List.{append-nil, map-append}
use Rattle.cb_lex.specs.declared.token.Sort.TheVariants as sort
use Rattle.cb_lex.specs.declared.token.Keyword.TheVariants as keyword
use Rattle.cb_lex.specs.declared.token.Sign.{Sign}
use Rattle.cb_lex.specs.declared.token.Sign.TheVariants as sign
use Rattle.cb_lex.specs.declared.raw.event.RawCall.{RawCall}
use Rattle.cb_lex.specs.declared.raw.event.RawEvent.{RawEvent}
use Rattle.cb_lex.specs.declared.raw.event.RawEvent.TheVariants as event
use Rattle.cb_lex.specs.declared.raw.name.RawName.{RawName}
use Rattle.cb_lex.specs.RawTermTree.{RawTermTree, RawTerms, RawFormulaTree, raw_terms}
use Rattle.cb_lex.specs.RawTermTree as term
use Rattle.cb_lex.specs.RawProcessTree.{RawProcessTree, RawProcesses}
use Rattle.cb_lex.specs.RawProcessTree as tree
use Rattle.cb_grammar.specs.declared.actions.TheConstants as action
use Rattle.cb_amn_parse.specs.Lexemes.{Lexeme, Named, Said, Did}
use Rattle.cb_amn_parse.specs.Formulas.{listed_out, formula_out, terms_out, names_out, condition_out}
use Rattle.cb_amn_parse.specs.Processes.{event_out, process_out, operands_out, second_out, others_out}
use Rattle.cb_amn_print.specs.Tokens.{said, name_text, wrapped, only_if}
use Rattle.cb_amn_print.specs.Formulas.{terms_text}
use Rattle.cb_amn_print.specs.Machines.{names_text}
use Rattle.cb_amn_print.specs.Printed.{unplaced}
use Rattle.cb_amn_print.proofs.Scripts.{Piece, Kept, Done, text_of, told_of, text-append, told-append, text-both, told-both}
use Rattle.cb_amn_print.proofs.Pieces.{open_piece, close_piece, wrap, comma_unless, terms_script, formula_script, term-text, formula-text, term-told, formula-told, told-name, bare}
use Rattle.cb_amn_print.proofs.MachinePieces.{word, mark, name, names_script, names-text, names-told}
use Rattle.cb_amn_print.proofs.WholePieces.{some_entry}
use Rattle.cb_text_print.specs.Processes.{list_text, arguments_text, guard_text, passed_text, returned_text, event_text, process_text, chain_text}

-- ---- one after the other

pub text-ended : (p : List Piece) (a : ℕ) (t : List ℕ) → text_of p ≡ t → text_of (p ++ (Done a ∷ [])) ≡ t
text-ended p a t e = text-append p (Done a ∷ []) ∙ append-nil (text_of p) ∙ e

-- in parentheses
abbrev pub enclosed : List Piece → List Piece
enclosed p = open_piece ∷ (p ++ (close_piece ∷ []))

text-enclosed : (p : List Piece) (t : List ℕ) → text_of p ≡ t → text_of (enclosed p) ≡ said (sort.Sign sign.OpenParenthesis) ++ (t ++ said (sort.Sign sign.CloseParenthesis))
text-enclosed p t e = simp (text-append, e, append_assoc, append-nil) refl

pub told-closed : (p : List Piece) → told_of (p ++ (close_piece ∷ [])) ≡ told_of p
told-closed p = told-append p (close_piece ∷ []) ∙ append-nil (told_of p)

-- ---- lists of terms

abbrev pub list_script : List RawTermTree → List Piece
list_script ts = terms_script true (raw_terms ts)

text-comma : (first : Bool) → text_of (comma_unless first) ≡ only_if (not first) (said (sort.Sign sign.Comma))
text-comma true = refl
text-comma false = refl

terms-text : (first : Bool) (ts : RawTerms) → text_of (terms_script first ts) ≡ terms_text first ts
terms-text first term.End = refl
terms-text first (term.More t ts) =
    let a = term-text false t in
    let b = terms-text false ts in
    let c = text-comma first in
    simp (text-append, a, b, c, append_assoc) refl

told-comma : (first : Bool) → told_of (comma_unless first) ≡ []
told-comma true = refl
told-comma false = refl

terms-told : (first : Bool) (ts : RawTerms) → told_of (terms_script first ts) ≡ bare (listed_out ts)
terms-told first term.End = refl
terms-told first (term.More t ts) =
    let a = term-told false t in
    let b = terms-told false ts in
    let c = told-comma first in
    simp (told-append, a, b, c, map-append) refl

list-text : (ts : List RawTermTree) → text_of (list_script ts) ≡ list_text ts
list-text ts = terms-text true (raw_terms ts)

list-told : (ts : List RawTermTree) → told_of (list_script ts) ≡ bare (listed_out (raw_terms ts))
list-told ts = terms-told true (raw_terms ts)

-- in parentheses where there are any
abbrev pub given_script : List RawTermTree → List Piece
given_script [] = []
given_script (t ∷ ts) = enclosed (list_script (t ∷ ts))

pub given-text : (ts : List RawTermTree) → text_of (given_script ts) ≡ arguments_text ts
given-text [] = refl
given-text (t ∷ ts) =
    let c = some_entry t ts in
    rw c (text-enclosed (list_script (t ∷ ts)) (list_text (t ∷ ts)) (list-text (t ∷ ts)) ∙ sym (append_assoc (said (sort.Sign sign.OpenParenthesis)) (list_text (t ∷ ts)) (said (sort.Sign sign.CloseParenthesis))))

pub given-told : (ts : List RawTermTree) → told_of (given_script ts) ≡ bare (listed_out (raw_terms ts))
given-told [] = refl
given-told (t ∷ ts) = told-closed (list_script (t ∷ ts)) ∙ list-told (t ∷ ts)

-- with the action of no terms behind the parenthesis
abbrev pub arguments_script : List RawTermTree → List Piece
arguments_script [] = Done action.NO_TERMS ∷ []
arguments_script (t ∷ ts) = open_piece ∷ (Done action.NO_TERMS ∷ (list_script (t ∷ ts) ++ (close_piece ∷ [])))

arguments-text : (ts : List RawTermTree) → text_of (arguments_script ts) ≡ arguments_text ts
arguments-text [] = refl
arguments-text (t ∷ ts) = given-text (t ∷ ts)

arguments-told : (ts : List RawTermTree) → told_of (arguments_script ts) ≡ bare (terms_out ts)
arguments-told [] = refl
arguments-told (t ∷ ts) = ap (λ (l : List Lexeme). Did action.NO_TERMS ∷ l) (given-told (t ∷ ts))

-- ---- what events have behind their names

abbrev pub passed_script : List RawTermTree → List Piece
passed_script [] = []
passed_script (t ∷ ts) = mark sign.Bang ∷ given_script (t ∷ ts)

passed-text : (ts : List RawTermTree) → text_of (passed_script ts) ≡ passed_text ts
passed-text [] = refl
passed-text (t ∷ ts) =
    let c = some_entry t ts in
    let a = given-text (t ∷ ts) in
    ap (λ (x : List ℕ). said (sort.Sign sign.Bang) ++ x) a ∙ ap (λ (b : Bool). only_if b (said (sort.Sign sign.Bang)) ++ arguments_text (t ∷ ts)) (sym c)

passed-told : (ts : List RawTermTree) → told_of (passed_script ts) ≡ bare (listed_out (raw_terms ts))
passed-told [] = refl
passed-told (t ∷ ts) = given-told (t ∷ ts)

abbrev pub returned_script : List RawName → List Piece
returned_script [] = Done action.NO_NAMES ∷ []
returned_script (x ∷ xs) = mark sign.Query ∷ enclosed (names_script (x ∷ xs))

returned-text : (xs : List RawName) → text_of (returned_script xs) ≡ returned_text xs
returned-text [] = refl
returned-text (x ∷ xs) =
    let c = some_entry x xs in
    let a = names-text (x ∷ xs) in
    rw c (simp (text-append, a, append_assoc, append-nil) refl)

returned-told : (xs : List RawName) → told_of (returned_script xs) ≡ bare (names_out xs)
returned-told [] = refl
returned-told (x ∷ xs) = told-closed (names_script (x ∷ xs)) ∙ names-told (x ∷ xs)

-- names, or none, and the parenthesis
abbrev pub ended_names : List RawName → List Piece
ended_names [] = close_piece ∷ (Done action.NO_NAMES ∷ [])
ended_names (x ∷ xs) = names_script (x ∷ xs) ++ (close_piece ∷ [])

pub ended-names-text : (xs : List RawName) → text_of (ended_names xs) ≡ names_text true xs ++ said (sort.Sign sign.CloseParenthesis)
ended-names-text [] = refl
ended-names-text (x ∷ xs) = text-both (names_script (x ∷ xs)) (close_piece ∷ []) (names_text true (x ∷ xs)) (said (sort.Sign sign.CloseParenthesis)) (names-text (x ∷ xs)) refl

pub ended-names-told : (xs : List RawName) → told_of (ended_names xs) ≡ bare (names_out xs)
ended-names-told [] = refl
ended-names-told (x ∷ xs) = told-closed (names_script (x ∷ xs)) ∙ names-told (x ∷ xs)

abbrev pub guard_script : Option RawFormulaTree → List Piece
guard_script None = Done action.NO_CONDITION ∷ []
guard_script (Some f) = mark sign.OpenBrace ∷ (formula_script false f ++ (mark sign.CloseBrace ∷ (Done action.SOME_CONDITION ∷ [])))

guard-text : (f : Option RawFormulaTree) → text_of (guard_script f) ≡ guard_text f
guard-text None = refl
guard-text (Some f) = let a = formula-text false f in simp (text-append, a, append_assoc, append-nil) refl

guard-told : (f : Option RawFormulaTree) → told_of (guard_script f) ≡ bare (condition_out f)
guard-told None = refl
guard-told (Some f) = let a = formula-told false f in simp (told-append, a, map-append) refl

abbrev pub event_script : RawEvent → List Piece
event_script (event.Output c ts f) = name c ∷ (mark sign.Bang ∷ (open_piece ∷ (Done action.NO_TERMS ∷ ((list_script ts ++ (close_piece ∷ [])) ++ (guard_script f ++ (Done action.OUTPUT ∷ []))))))
event_script (event.Input c xs f) = name c ∷ (mark sign.Query ∷ (open_piece ∷ (ended_names xs ++ (guard_script f ++ (Done action.INPUT ∷ [])))))
event_script (event.Operation m o ts xs) = name m ∷ (mark sign.Dot ∷ (name o ∷ (Done action.NO_TERMS ∷ (passed_script ts ++ (returned_script xs ++ (Done action.OPERATION_CALL ∷ []))))))

event-text : (e : RawEvent) → text_of (event_script e) ≡ event_text e
event-text (event.Output c ts f) =
    let a = list-text ts in
    let b = guard-text f in
    simp (text-append, a, b, append_assoc, append-nil) refl
event-text (event.Input c xs f) =
    let a = ended-names-text xs in
    let b = guard-text f in
    simp (text-append, a, b, append_assoc, append-nil) refl
event-text (event.Operation m o ts xs) =
    let a = passed-text ts in
    let b = returned-text xs in
    simp (text-append, a, b, append_assoc, append-nil) refl

three : (l : Lexeme) (a b e : List Lexeme) → bare (((l ∷ a) ++ b) ++ e) ≡ unplaced l ∷ (bare a ++ (bare b ++ bare e))
three l a b e =
    map-append unplaced ((l ∷ a) ++ b) e ∙ ap (λ (x : List Lexeme). x ++ bare e) (map-append unplaced (l ∷ a) b) ∙ append_assoc (unplaced l ∷ bare a) (bare b) (bare e)

event-told : (e : RawEvent) → told_of (event_script e) ≡ bare (event_out e)
event-told (event.Output c ts f) =
    let a = list-told ts in
    let b = guard-told f in
    let d = told-name c in
    let l : told_of (event_script (event.Output c ts f)) ≡ unplaced (Named c) ∷ (bare (terms_out ts) ++ (bare (condition_out f) ++ (Did action.OUTPUT ∷ []))) = simp (told-append, a, b, d, append-nil) refl in
    l ∙ sym (three (Named c) (terms_out ts) (condition_out f) (Did action.OUTPUT ∷ []))
event-told (event.Input c xs f) =
    let a = ended-names-told xs in
    let b = guard-told f in
    let d = told-name c in
    let l : told_of (event_script (event.Input c xs f)) ≡ unplaced (Named c) ∷ (bare (names_out xs) ++ (bare (condition_out f) ++ (Did action.INPUT ∷ []))) = simp (told-append, a, b, d) refl in
    l ∙ sym (three (Named c) (names_out xs) (condition_out f) (Did action.INPUT ∷ []))
event-told (event.Operation m o ts xs) =
    let a = passed-told ts in
    let b = returned-told xs in
    let d = told-name m in
    let k = told-name o in
    let l : told_of (event_script (event.Operation m o ts xs)) ≡ unplaced (Named m) ∷ (bare (Named o ∷ terms_out ts) ++ (bare (names_out xs) ++ (Did action.OPERATION_CALL ∷ []))) = simp (told-append, a, b, d, k) refl in
    l ∙ sym (three (Named m) (Named o ∷ terms_out ts) (names_out xs) (Did action.OPERATION_CALL ∷ []))

-- ---- processes

abbrev pub call_script : RawCall → List Piece
call_script c = name c.name ∷ (arguments_script c.arguments ++ (Done action.CALL ∷ []))

-- the first two operands are joined, and the others are appended one by one
abbrev mutual
  pub process_script : Bool → RawProcessTree → List Piece
  process_script inner (tree.Stop p) = Kept (sort.Keyword keyword.Stop) ∷ (Done action.STOP ∷ [])
  process_script inner (tree.Skip p) = Kept (sort.Keyword keyword.SkipProcess) ∷ (Done action.SKIP_PROCESS ∷ [])
  process_script inner (tree.Call c) = call_script c
  process_script inner (tree.If p f a b) =
      Kept (sort.Keyword keyword.If) ∷ (formula_script false f ++ (word keyword.Then ∷ (process_script false a ++ (word keyword.Else ∷ (process_script false b ++ (word keyword.End ∷ (Done action.PROCESS_IF ∷ [])))))))
  process_script inner (tree.Prefix e a) = event_script e ++ (mark sign.Arrow ∷ (process_script true a ++ (Done action.PREFIX ∷ [])))
  process_script inner (tree.External ps) = wrap inner (first_script sign.ExternalChoice ps ++ (Done action.EXTERNAL ∷ []))
  process_script inner (tree.Internal ps) = wrap inner (first_script sign.InternalChoice ps ++ (Done action.INTERNAL ∷ []))

  pub first_script : Sign → RawProcesses → List Piece
  first_script s tree.NoOperand = []
  first_script s (tree.Operand p ps) = process_script true p ++ second_script s ps

  pub second_script : Sign → RawProcesses → List Piece
  second_script s tree.NoOperand = []
  second_script s (tree.Operand p ps) = mark s ∷ (process_script true p ++ (Done action.FIRST_TWO ∷ others_script s ps))

  pub others_script : Sign → RawProcesses → List Piece
  others_script s tree.NoOperand = []
  others_script s (tree.Operand p ps) = mark s ∷ (process_script true p ++ (Done action.APPEND_PROCESS ∷ others_script s ps))

text-wrap : (w : Bool) (p : List Piece) → text_of (wrap w p) ≡ wrapped w (text_of p)
text-wrap true p = simp (text-append, append_assoc) refl
text-wrap false p = sym (append-nil (text_of p))

call-text : (c : RawCall) → text_of (call_script c) ≡ name_text c.name ++ arguments_text c.arguments
call-text c = let a = arguments-text c.arguments in ap (λ (x : List ℕ). name_text c.name ++ x) (text-ended (arguments_script c.arguments) action.CALL (arguments_text c.arguments) a)

mutual
  pub process-text : (inner : Bool) (p : RawProcessTree) → text_of (process_script inner p) ≡ process_text inner p
  process-text inner (tree.Stop p) = refl
  process-text inner (tree.Skip p) = refl
  process-text inner (tree.Call c) = call-text c
  process-text inner (tree.If p f a b) =
      let x = formula-text false f in
      let y = process-text false a in
      let z = process-text false b in
      simp (text-append, x, y, z, append_assoc, append-nil) refl
  process-text inner (tree.Prefix e a) =
      let x = event-text e in
      let y = process-text true a in
      simp (text-append, x, y, append_assoc, append-nil) refl
  process-text inner (tree.External ps) =
      let x = first-text sign.ExternalChoice ps in
      text-wrap inner _ ∙ ap (λ (t : List ℕ). wrapped inner t) (text-ended (first_script sign.ExternalChoice ps) action.EXTERNAL _ x)
  process-text inner (tree.Internal ps) =
      let x = first-text sign.InternalChoice ps in
      text-wrap inner _ ∙ ap (λ (t : List ℕ). wrapped inner t) (text-ended (first_script sign.InternalChoice ps) action.INTERNAL _ x)

  first-text : (s : Sign) (ps : RawProcesses) → text_of (first_script s ps) ≡ chain_text (said (sort.Sign s)) true ps
  first-text s tree.NoOperand = refl
  first-text s (tree.Operand p ps) =
      let x = process-text true p in
      let y = second-text s ps in
      text-both (process_script true p) (second_script s ps) _ _ x y

  second-text : (s : Sign) (ps : RawProcesses) → text_of (second_script s ps) ≡ chain_text (said (sort.Sign s)) false ps
  second-text s tree.NoOperand = refl
  second-text s (tree.Operand p ps) =
      let x = process-text true p in
      let y = others-text s ps in
      simp (text-append, x, y, append_assoc) refl

  others-text : (s : Sign) (ps : RawProcesses) → text_of (others_script s ps) ≡ chain_text (said (sort.Sign s)) false ps
  others-text s tree.NoOperand = refl
  others-text s (tree.Operand p ps) =
      let x = process-text true p in
      let y = others-text s ps in
      simp (text-append, x, y, append_assoc) refl

told-wrap : (w : Bool) (p : List Piece) → told_of (wrap w p) ≡ told_of p
told-wrap true p = told-closed p
told-wrap false p = refl

call-told : (c : RawCall) → told_of (call_script c) ≡ bare ((Named c.name ∷ terms_out c.arguments) ++ (Did action.CALL ∷ []))
call-told c =
    let a = arguments-told c.arguments in
    let d = told-name c.name in
    let l : told_of (call_script c) ≡ bare (Named c.name ∷ terms_out c.arguments) ++ (Did action.CALL ∷ []) = simp (told-append, a, d) refl in
    l ∙ sym (map-append unplaced (Named c.name ∷ terms_out c.arguments) (Did action.CALL ∷ []))

branches_told : (i : Lexeme) (f a b e : List Lexeme) → bare ((((i ∷ f) ++ a) ++ b) ++ e) ≡ unplaced i ∷ (bare f ++ (bare a ++ (bare b ++ bare e)))
branches_told i f a b e =
    map-append unplaced (((i ∷ f) ++ a) ++ b) e ∙ ap (λ (x : List Lexeme). x ++ bare e) (three i f a b) ∙ append_assoc (unplaced i ∷ bare f) (bare a ++ bare b) (bare e)
    ∙ ap (λ (x : List Lexeme). (unplaced i ∷ bare f) ++ x) (append_assoc (bare a) (bare b) (bare e))

prefix_told : (v a e : List Lexeme) → bare ((v ++ a) ++ e) ≡ bare v ++ (bare a ++ bare e)
prefix_told v a e = simp (map-append, append_assoc) refl

mutual
  pub process-told : (inner : Bool) (p : RawProcessTree) → told_of (process_script inner p) ≡ bare (process_out p)
  process-told inner (tree.Stop p) = refl
  process-told inner (tree.Skip p) = refl
  process-told inner (tree.Call c) = call-told c
  process-told inner (tree.If p f a b) =
      let x = formula-told false f in
      let y = process-told false a in
      let z = process-told false b in
      let i : Lexeme = Said (sort.Keyword keyword.If) p in
      let l : told_of (process_script inner (tree.If p f a b)) ≡ unplaced i ∷ (bare (formula_out f) ++ (bare (process_out a) ++ (bare (process_out b) ++ (Did action.PROCESS_IF ∷ [])))) = simp (told-append, x, y, z) refl in
      l ∙ sym (branches_told i (formula_out f) (process_out a) (process_out b) (Did action.PROCESS_IF ∷ []))
  process-told inner (tree.Prefix e a) =
      let x = event-told e in
      let y = process-told true a in
      let l : told_of (process_script inner (tree.Prefix e a)) ≡ bare (event_out e) ++ (bare (process_out a) ++ (Did action.PREFIX ∷ [])) = simp (told-append, x, y) refl in
      l ∙ sym (prefix_told (event_out e) (process_out a) (Did action.PREFIX ∷ []))
  process-told inner (tree.External ps) =
      told-wrap inner _ ∙ told-both (first_script sign.ExternalChoice ps) (Done action.EXTERNAL ∷ []) (bare (operands_out ps)) (Did action.EXTERNAL ∷ []) (first-told sign.ExternalChoice ps) refl ∙ sym (map-append unplaced (operands_out ps) (Did action.EXTERNAL ∷ []))
  process-told inner (tree.Internal ps) =
      told-wrap inner _ ∙ told-both (first_script sign.InternalChoice ps) (Done action.INTERNAL ∷ []) (bare (operands_out ps)) (Did action.INTERNAL ∷ []) (first-told sign.InternalChoice ps) refl ∙ sym (map-append unplaced (operands_out ps) (Did action.INTERNAL ∷ []))

  first-told : (s : Sign) (ps : RawProcesses) → told_of (first_script s ps) ≡ bare (operands_out ps)
  first-told s tree.NoOperand = refl
  first-told s (tree.Operand p ps) = told-both (process_script true p) (second_script s ps) _ _ (process-told true p) (second-told s ps) ∙ sym (map-append unplaced (process_out p) (second_out ps))

  second-told : (s : Sign) (ps : RawProcesses) → told_of (second_script s ps) ≡ bare (second_out ps)
  second-told s tree.NoOperand = refl
  second-told s (tree.Operand p ps) =
      told-both (process_script true p) (Done action.FIRST_TWO ∷ others_script s ps) (bare (process_out p)) (Did action.FIRST_TWO ∷ bare (others_out ps)) (process-told true p) (ap (λ (l : List Lexeme). Did action.FIRST_TWO ∷ l) (others-told s ps))
      ∙ sym (map-append unplaced (process_out p) (Did action.FIRST_TWO ∷ others_out ps))

  others-told : (s : Sign) (ps : RawProcesses) → told_of (others_script s ps) ≡ bare (others_out ps)
  others-told s tree.NoOperand = refl
  others-told s (tree.Operand p ps) =
      told-both (process_script true p) (Done action.APPEND_PROCESS ∷ others_script s ps) (bare (process_out p)) (Did action.APPEND_PROCESS ∷ bare (others_out ps)) (process-told true p)
      (ap (λ (l : List Lexeme). Did action.APPEND_PROCESS ∷ l) (others-told s ps))
      ∙ sym (map-append unplaced (process_out p) (Did action.APPEND_PROCESS ∷ others_out ps))
