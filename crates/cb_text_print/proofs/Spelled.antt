-- The pieces of events and processes are spelled by the grammar.
use Rattle.std.proofs.Common.{◌≡◌, ℕ, true, false, List, [], ◌∷◌, ◌++◌, refl, sym, subst, inl, inr}
use Rattle.std.specs.Prelude.{Option, Some, None}
use Rattle.cb_lex.specs.declared.token.Keyword.TheVariants as keyword
use Rattle.cb_lex.specs.declared.token.Sign.{Sign}
use Rattle.cb_lex.specs.declared.token.Sign.TheVariants as sign
use Rattle.cb_lex.specs.declared.raw.event.RawEvent.{RawEvent}
use Rattle.cb_lex.specs.declared.raw.event.RawEvent.TheVariants as event
use Rattle.cb_lex.specs.declared.raw.name.RawName.{RawName}
use Rattle.cb_lex.specs.RawTermTree.{RawTermTree, RawTerms, RawFormulaTree, raw_terms}
use Rattle.cb_lex.specs.RawTermTree as term
use Rattle.cb_lex.specs.RawProcessTree.{RawProcessTree, RawProcesses}
use Rattle.cb_lex.specs.RawProcessTree as tree
use Rattle.cb_engine.specs.declared.Symbol.{Symbol}
use Rattle.cb_engine.specs.declared.Symbol.TheVariants.{Take, Act, Part}
use Rattle.cb_engine.specs.Lines.{alternatives, Among, Repeated}
use Rattle.cb_engine.specs.Lines.Repeated.{none, more}
use Rattle.cb_grammar.specs.declared.table.TheConstants.{GRAMMAR}
use Rattle.cb_grammar.specs.declared.actions.TheConstants as action
use Rattle.cb_grammar.specs.Classes.{sign_class}
use Rattle.cb_grammar.specs.Numbers as part
use Rattle.cb_grammar.specs.Written.{ProcessIsWritten, ProcessLine}
use Rattle.cb_grammar.specs.Written.ProcessLine.{step as plain_step, external, internal}
use Rattle.cb_written.specs.Processes.{terms_or_none, names_or_none, guards, passed, returned, arguments, EventLine, StepLine, StepIsWritten}
use Rattle.cb_written.specs.Processes.EventLine.{output, input, operation_call}
use Rattle.cb_written.specs.Processes.ItemLine.{stop, skip, call, parentheses, if}
use Rattle.cb_written.specs.Processes.StepLine.{prefix, item}
use Rattle.cb_written.specs.Controllers.{start_terms}
use Rattle.cb_amn_parse.specs.Lexemes.{Lexeme, Did}
use Rattle.cb_amn_parse.specs.Formulas.{term_out, listed_out, formula_out, terms_out, names_out, condition_out}
use Rattle.cb_amn_parse.specs.Processes.{event_out, process_out, operands_out, others_out}
use Rattle.cb_amn_print.proofs.Scripts.{Piece}
use Rattle.cb_amn_print.proofs.Pieces.{open_piece, close_piece, terms_script, formula_script}
use Rattle.cb_amn_print.proofs.Lines.{Good, join, sign_taken, word_taken, word_kept, act, by_line, by_table}
use Rattle.cb_amn_print.proofs.Spelled.{AllFine, parted, term_good, formula_good}
use Rattle.cb_amn_print.proofs.MachineSpelled.{MoreLaws, empty, name_good, names_good}
use Rattle.cb_text_shapes.specs.Whole.{HasTwo, IsChained, AreChained}
use Rattle.cb_text_print.proofs.Pieces.{enclosed, list_script, given_script, arguments_script, passed_script, returned_script, ended_names, guard_script, event_script, process_script, first_script, others_script}

pub record ProcessLaws : Type 0 where
  pub more_laws : MoreLaws
  pub process_law : ProcessIsWritten
  pub step_law : StepIsWritten

abbrev more_terms : List Symbol
more_terms = Part part.term ∷ (Act action.APPEND_TERM ∷ (Part part.terms_1 ∷ []))

terms_lines : alternatives GRAMMAR part.terms ≡ more_terms ∷ []
terms_lines = refl

terms_rest_lines : alternatives GRAMMAR part.terms_1 ≡ (Take (sign_class sign.Comma) ∷ more_terms) ∷ ([] ∷ [])
terms_rest_lines = refl

-- no opened name stands in a text
abbrev pub G : List Symbol → List Piece → Type 0
G k p = Good false k p

abbrev pub Fine : List Lexeme → Type 0
Fine ls = AllFine false ls

pub both : (a b : List Lexeme) → Fine (a ++ b) → Fine a × Fine b
both a b f = parted false a b f

pub open_taken : G (Take (sign_class sign.OpenParenthesis) ∷ []) (open_piece ∷ [])
open_taken = sign_taken false sign.OpenParenthesis

pub close_taken : G (Take (sign_class sign.CloseParenthesis) ∷ []) (close_piece ∷ [])
close_taken = sign_taken false sign.CloseParenthesis

-- one of these lines spells the pieces
abbrev pub OneOfThese : List (List Symbol) → List Piece → Type 0
OneOfThese ls p = (w : List Symbol) × (Among ls w × G w p)

-- pieces of this line, any number of times, spell them
abbrev pub Again : List Symbol → List Piece → Type 0
Again w p = (x : List Symbol) × (Repeated (w ∷ []) x × G x p)

module _ (l : ProcessLaws) where
  -- ---- terms and names

  rest_good : (ts : RawTerms) → Fine (listed_out ts) → G (Part part.terms_1 ∷ []) (terms_script false ts)
  rest_good term.End f = by_table false l.more_laws.laws.plain part.terms_1 _ terms_rest_lines _ _ (inr (inl refl)) (empty false l.more_laws)
  rest_good (term.More t ts) f =
      let e = both (term_out t) (Did action.APPEND_TERM ∷ listed_out ts) f in
      by_table false l.more_laws.laws.plain part.terms_1 _ terms_rest_lines _ _ (inl refl) (join false (sign_taken false sign.Comma) (join false (term_good false l.more_laws.laws t e.0).1 (join false (act false action.APPEND_TERM) (rest_good ts e.1.1))))

  list_good : (t : RawTermTree) (ts : List RawTermTree) → Fine (listed_out (raw_terms (t ∷ ts))) → G (Part part.terms ∷ []) (list_script (t ∷ ts))
  list_good t ts f =
      let e = both (term_out t) (Did action.APPEND_TERM ∷ listed_out (raw_terms ts)) f in
      by_table false l.more_laws.laws.plain part.terms _ terms_lines _ _ (inl refl) (join false (term_good false l.more_laws.laws t e.0).1 (join false (act false action.APPEND_TERM) (rest_good (raw_terms ts) e.1.1)))

  enclosed_good : (n : ℕ) (p : List Piece) → G (Part n ∷ []) p → G (Take (sign_class sign.OpenParenthesis) ∷ (Part n ∷ (Take (sign_class sign.CloseParenthesis) ∷ []))) (enclosed p)
  enclosed_good n p g = join false open_taken (join false g close_taken)

  pub given_good : (ts : List RawTermTree) → Fine (listed_out (raw_terms ts)) → OneOfThese start_terms (given_script ts)
  given_good [] f = (_, (inr (inl refl), empty false l.more_laws))
  given_good (t ∷ ts) f = (_, (inl refl, enclosed_good part.terms (list_script (t ∷ ts)) (list_good t ts f)))

  arguments_good : (ts : List RawTermTree) → Fine (terms_out ts) → OneOfThese arguments (arguments_script ts)
  arguments_good [] f = (_, (inr (inl refl), act false action.NO_TERMS))
  arguments_good (t ∷ ts) f = (_, (inl refl, join false open_taken (join false (act false action.NO_TERMS) (join false (list_good t ts f.1) close_taken))))

  ended_terms_good : (ts : List RawTermTree) → Fine (listed_out (raw_terms ts)) → OneOfThese terms_or_none (list_script ts ++ (close_piece ∷ []))
  ended_terms_good [] f = (_, (inl refl, close_taken))
  ended_terms_good (t ∷ ts) f = (_, (inr (inl refl), join false (list_good t ts f) close_taken))

  passed_good : (ts : List RawTermTree) → Fine (listed_out (raw_terms ts)) → OneOfThese passed (passed_script ts)
  passed_good [] f = (_, (inr (inl refl), empty false l.more_laws))
  passed_good (t ∷ ts) f = (_, (inl refl, join false (sign_taken false sign.Bang) (enclosed_good part.terms (list_script (t ∷ ts)) (list_good t ts f))))

  returned_good : (xs : List RawName) → Fine (names_out xs) → OneOfThese returned (returned_script xs)
  returned_good [] f = (_, (inr (inl refl), act false action.NO_NAMES))
  returned_good (x ∷ xs) f = (_, (inl refl, join false (sign_taken false sign.Query) (enclosed_good part.names _ (names_good false l.more_laws x xs f))))

  pub ended_names_good : (xs : List RawName) → Fine (names_out xs) → OneOfThese names_or_none (ended_names xs)
  ended_names_good [] f = (_, (inl refl, join false close_taken (act false action.NO_NAMES)))
  ended_names_good (x ∷ xs) f = (_, (inr (inl refl), join false (names_good false l.more_laws x xs f) close_taken))

  pub condition_good : (g : RawFormulaTree) → Fine (condition_out (Some g)) → G (Part part.formula ∷ []) (formula_script false g)
  condition_good g f = let h = formula_good false l.more_laws.laws g (both (formula_out g) (Did action.SOME_CONDITION ∷ []) f).0 in h.formula

  guard_good : (c : Option RawFormulaTree) → Fine (condition_out c) → OneOfThese guards (guard_script c)
  guard_good None f = (_, (inr (inl refl), act false action.NO_CONDITION))
  guard_good (Some g) f = (_, (inl refl, join false (sign_taken false sign.OpenBrace) (join false (condition_good g f) (join false (sign_taken false sign.CloseBrace) (act false action.SOME_CONDITION)))))

  -- ---- events

  event_good : (e : RawEvent) → Fine (event_out e) → (w : List Symbol) × (EventLine w × G w (event_script e))
  event_good (event.Output c ts g) f =
      let d = both (terms_out ts) (condition_out g) (both (terms_out ts ++ condition_out g) (Did action.OUTPUT ∷ []) f.1).0 in
      let t = ended_terms_good ts d.0.1 in
      let u = guard_good g d.1 in (
        _,
        (
          output t.0 u.0 t.1.0 u.1.0,
          join false (name_good false l.more_laws c f.0) (join false (sign_taken false sign.Bang) (join false open_taken (join false (act false action.NO_TERMS) (join false t.1.1 (join false u.1.1 (act false action.OUTPUT)))))),
        ),
      )
  event_good (event.Input c xs g) f =
      let d = both (names_out xs) (condition_out g) (both (names_out xs ++ condition_out g) (Did action.INPUT ∷ []) f.1).0 in
      let t = ended_names_good xs d.0 in
      let u = guard_good g d.1 in (
        _,
        (
          input t.0 u.0 t.1.0 u.1.0,
          join false (name_good false l.more_laws c f.0) (join false (sign_taken false sign.Query) (join false open_taken (join false t.1.1 (join false u.1.1 (act false action.INPUT))))),
        ),
      )
  event_good (event.Operation m o ts xs) f =
      let d = both (terms_out ts) (names_out xs) (both (terms_out ts ++ names_out xs) (Did action.OPERATION_CALL ∷ []) f.1.1).0 in
      let t = passed_good ts d.0.1 in
      let u = returned_good xs d.1 in (
        _,
        (
          operation_call t.0 u.0 t.1.0 u.1.0,
          join false (name_good false l.more_laws m f.0) (join false (sign_taken false sign.Dot) (join false (name_good false l.more_laws o f.1.0) (join false (act false action.NO_TERMS) (join false t.1.1 (join false u.1.1 (act false action.OPERATION_CALL)))))),
        ),
      )

  -- ---- processes

  -- as an operand, and by itself
  pub record ProcessGood (p : RawProcessTree) : Type 0 where
    pub step : G (Part part.step ∷ []) (process_script true p)
    pub whole : G (Part part.process ∷ []) (process_script false p)

  step_by : (w : List Symbol) (p : List Piece) → StepLine w → G w p → G (Part part.step ∷ []) p
  step_by w p s g = by_line false part.step StepLine l.step_law w p s g

  process_by : (w : List Symbol) (p : List Piece) → ProcessLine w → G w p → G (Part part.process ∷ []) p
  process_by w p s g = by_line false part.process ProcessLine l.process_law w p s g

  alone : (p : RawProcessTree) → process_script true p ≡ process_script false p → G (Part part.step ∷ []) (process_script false p) → ProcessGood p
  alone p e g = record { step = subst (λ (q : List Piece). G (Part part.step ∷ []) q) (sym e) g; whole = process_by _ _ plain_step g }

  -- a chain stands in parentheses where it is an operand
  chain_good : (p : RawProcessTree) → process_script true p ≡ enclosed (process_script false p) → G (Part part.process ∷ []) (process_script false p) → ProcessGood p
  chain_good p e g = record { step = subst (λ (q : List Piece). G (Part part.step ∷ []) q) (sym e) (step_by _ _ (item _ parentheses) (enclosed_good part.process _ g)); whole = g }

  abbrev sign_step : Sign → ℕ → List Symbol
  sign_step s a = Take (sign_class s) ∷ (Part part.step ∷ (Act a ∷ []))

  -- two operands and others
  abbrev ChainOf : Sign → RawProcesses → Type 0
  ChainOf s ps = (x : List Symbol) × (Repeated (sign_step s action.APPEND_PROCESS ∷ []) x × G (Part part.step ∷ (sign_step s action.FIRST_TWO ++ x)) (first_script s ps))

  mutual
    pub process_good : (p : RawProcessTree) → IsChained p → Fine (process_out p) → ProcessGood p
    process_good (tree.Stop p) u f = alone (tree.Stop p) refl (step_by _ _ (item _ stop) (join false (word_kept false keyword.Stop refl) (act false action.STOP)))
    process_good (tree.Skip p) u f = alone (tree.Skip p) refl (step_by _ _ (item _ skip) (join false (word_kept false keyword.SkipProcess refl) (act false action.SKIP_PROCESS)))
    process_good (tree.Call c) u f =
        let a = arguments_good c.arguments (both (terms_out c.arguments) (Did action.CALL ∷ []) f.1).0 in
        alone (tree.Call c) refl (step_by _ _ (item _ (call a.0 a.1.0)) (join false (name_good false l.more_laws c.name f.0) (join false a.1.1 (act false action.CALL))))
    process_good (tree.If p g a b) u f =
        let d = both (formula_out g ++ process_out a) (process_out b) (both ((formula_out g ++ process_out a) ++ process_out b) (Did action.PROCESS_IF ∷ []) f.1).0 in
        let e = both (formula_out g) (process_out a) d.0 in
        let h = formula_good false l.more_laws.laws g e.0 in
        let x = process_good a u.0 e.1 in
        let y = process_good b u.1 d.1 in
        alone (tree.If p g a b) refl (step_by _ _ (item _ if)
        (join false (word_kept false keyword.If refl) (join false h.formula (join false (word_taken false keyword.Then refl) (join false x.whole (join false (word_taken false keyword.Else refl) (join false y.whole
        (join false (word_taken false keyword.End refl) (act false action.PROCESS_IF)))))))))
    process_good (tree.Prefix e a) u f =
        let d = both (event_out e) (process_out a) (both (event_out e ++ process_out a) (Did action.PREFIX ∷ []) f).0 in
        let v = event_good e d.0 in
        let x = process_good a u d.1 in
        alone (tree.Prefix e a) refl (step_by _ _ (prefix v.0 v.1.0) (join false v.1.1 (join false (sign_taken false sign.Arrow) (join false x.step (act false action.PREFIX)))))
    process_good (tree.External ps) u f =
        let c = operands_good sign.ExternalChoice ps u.0 u.1 (both (operands_out ps) (Did action.EXTERNAL ∷ []) f).0 in
        chain_good (tree.External ps) refl (process_by _ _ (external c.0 c.1.0) (join false c.1.1 (act false action.EXTERNAL)))
    process_good (tree.Internal ps) u f =
        let c = operands_good sign.InternalChoice ps u.0 u.1 (both (operands_out ps) (Did action.INTERNAL ∷ []) f).0 in
        chain_good (tree.Internal ps) refl (process_by _ _ (internal c.0 c.1.0) (join false c.1.1 (act false action.INTERNAL)))

    operands_good : (s : Sign) (ps : RawProcesses) → HasTwo ps → AreChained ps → Fine (operands_out ps) → ChainOf s ps
    operands_good s tree.NoOperand t u f = absurd t
    operands_good s (tree.Operand p tree.NoOperand) t u f = absurd t
    operands_good s (tree.Operand p (tree.Operand q ps)) t u f =
        let d = both (process_out p) (process_out q ++ (Did action.FIRST_TWO ∷ others_out ps)) f in
        let e = both (process_out q) (Did action.FIRST_TWO ∷ others_out ps) d.1 in
        let x = process_good p u.0 d.0 in
        let y = process_good q u.1.0 e.0 in
        let z = others_good s ps u.1.1 e.1.1 in
        (z.0, (z.1.0, join false x.step (join false (sign_taken false s) (join false y.step (join false (act false action.FIRST_TWO) z.1.1)))))

    -- the operands behind the second
    others_good : (s : Sign) (ps : RawProcesses) → AreChained ps → Fine (others_out ps) → Again (sign_step s action.APPEND_PROCESS) (others_script s ps)
    others_good s tree.NoOperand u f = ([], (none, empty false l.more_laws))
    others_good s (tree.Operand p ps) u f =
        let e = both (process_out p) (Did action.APPEND_PROCESS ∷ others_out ps) f in
        let x = process_good p u.0 e.0 in
        let z = others_good s ps u.1 e.1.1 in
        (sign_step s action.APPEND_PROCESS ++ z.0, (more (sign_step s action.APPEND_PROCESS) z.0 (inl refl) z.1.0, join false (sign_taken false s) (join false x.step (join false (act false action.APPEND_PROCESS) z.1.1))))
