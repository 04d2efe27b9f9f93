-- Whatever proofs are read of what is printed are those that were printed, places aside.
use Rattle.std.proofs.Common.{◌≡◌, ℕ, zero, suc, Bool, true, false, List, [], ◌∷◌, ◌++◌, take, drop, refl, sym, ap, ◌∙◌, subst}
use Rattle.std.specs.Prelude.{map, Ok, Result, ◌-◌}
use Rattle.std.specs.List.{flat_map}
use Rattle.cb_lex.specs.declared.token.Token.{Token}
use Rattle.cb_lex.specs.declared.token.Sort.TheVariants.{Number, Keyword}
use Rattle.cb_lex.specs.declared.token.Keyword.TheVariants as keyword
use Rattle.cb_lex.specs.declared.lexer.LexFault.{LexFault}
use Rattle.cb_lex.specs.declared.raw.proof.RawNumber.{RawNumber}
use Rattle.cb_lex.specs.declared.raw.proof.RawObligation.{RawObligation}
use Rattle.cb_lex.specs.declared.raw.proof.RawObligation.TheVariants as obligation
use Rattle.cb_lex.specs.declared.raw.proof.RawRow.{RawRow}
use Rattle.cb_lex.specs.declared.raw.proof.RawArguments.{RawArguments}
use Rattle.cb_lex.specs.declared.raw.proof.RawArguments.TheVariants as arguments
use Rattle.cb_lex.specs.declared.raw.proof.RawProof.{RawProof}
use Rattle.cb_lex.specs.RawCertTree.{RawCertTree, RawCerts}
use Rattle.cb_lex.specs.RawCertTree as tree
use Rattle.cb_lex.specs.Lexes.{Lexes, start}
use Rattle.cb_lex.specs.Laws.{LexesOnce}
use Rattle.cb_engine.specs.declared.Symbol.{Symbol}
use Rattle.cb_engine.specs.declared.Terminal.{Terminal}
use Rattle.cb_engine.specs.declared.Item.{Item}
use Rattle.cb_engine.specs.Rules.{Rules, Spells}
use Rattle.cb_engine.specs.Readings.{IsWhole}
use Rattle.cb_engine.specs.Fronts.{begins_front}
use Rattle.cb_grammar.specs.declared.actions.TheConstants.{NO_PROOFS, APPEND_PROOF, NO_NODES, APPEND_NODE, NO_ROWS, APPEND_ROW}
use Rattle.cb_grammar.specs.declared.parts.Part.TheVariants as part
use Rattle.cb_grammar.specs.Misreadings.{language, symbols_of}
use Rattle.cb_grammar.specs.Terminals.{terminals}
use Rattle.cb_amn_parse.specs.Lexemes.{Lexeme, Named, Said, Did, lexemes}
use Rattle.cb_amn_parse.specs.Proofs.{numeral, obligation_out, row_action, row_out, row_entry, rows_out, arguments_out, rule_action, node_out, children_out, proof_entry, proofs_out}
use Rattle.cb_amn_parse.specs.Spelling.{IsSpelled, SpellsFrom}
use Rattle.cb_amn_parse.proofs.Once.{proofs_once}
use Rattle.cb_amn_print.specs.Printed.{unplaced}
use Rattle.cb_amn_print.proofs.OutAside.{Aside, join, first, done, term_aside, formula_aside}
use Rattle.cb_cert_print.specs.Printed.{SpellsProofs, ArePrintedBack, AreReadAgain}
use Rattle.cb_cert_print.specs.Proofs.{proof_text}
use Rattle.cb_cert_print.specs.Unplaced.{unplaced_number, unplaced_obligation, unplaced_row, unplaced_arguments, unplaced_cert, unplaced_certs, unplaced_proof, unplaced_proofs}

-- ---- what is written, places aside

rows_aside : (rs : List RawRow) → Aside (flat_map row_entry rs) (flat_map row_entry (map unplaced_row rs))
rows_aside [] = record { is = refl }
rows_aside (r ∷ rs) = first (numeral r.hypothesis) (first (numeral r.multiplier) (first (Did (row_action r.minus)) (first (Did APPEND_ROW) (rows_aside rs))))

obligation_aside : (o : RawObligation) → Aside (obligation_out o) (obligation_out (unplaced_obligation o))
obligation_aside (obligation.OfOwner g o n) = record { is = refl }
obligation_aside (obligation.OfStart p o n) = record { is = refl }
obligation_aside (obligation.OfPart g o x n) = record { is = refl }
obligation_aside (obligation.OfInitialisation g o p n) = record { is = refl }

only : (n : RawNumber) → Aside (numeral n ∷ []) (numeral (unplaced_number n) ∷ [])
only n = record { is = refl }

arguments_aside : (a : RawArguments) → Aside (arguments_out a) (arguments_out (unplaced_arguments a))
arguments_aside arguments.Nothing = record { is = refl }
arguments_aside (arguments.Hypothesis n) = record { is = refl }
arguments_aside (arguments.TwoHypotheses m n) = record { is = refl }
arguments_aside (arguments.Rows rs) = first (Did NO_ROWS) (rows_aside rs)
arguments_aside (arguments.Formula f) = formula_aside f
arguments_aside (arguments.Term t) = term_aside t
arguments_aside (arguments.TwoTerms s t) = join (term_aside s) (term_aside t)
arguments_aside (arguments.HypothesisTerm n t) = first (numeral n) (term_aside t)
arguments_aside (arguments.TermNumber t n) = join (term_aside t) (only n)

action_aside : (a : RawArguments) → rule_action (unplaced_arguments a) ≡ rule_action a
action_aside arguments.Nothing = refl
action_aside (arguments.Hypothesis n) = refl
action_aside (arguments.TwoHypotheses m n) = refl
action_aside (arguments.Rows rs) = refl
action_aside (arguments.Formula f) = refl
action_aside (arguments.Term t) = refl
action_aside (arguments.TwoTerms s t) = refl
action_aside (arguments.HypothesisTerm n t) = refl
action_aside (arguments.TermNumber t n) = refl

ended : (a : RawArguments) → Aside (Did (rule_action a) ∷ []) (Did (rule_action (unplaced_arguments a)) ∷ [])
ended a = record { is = ap (λ (n : ℕ). Did n ∷ []) (sym (action_aside a)) }

mutual
  cert_aside : (c : RawCertTree) → Aside (node_out c) (node_out (unplaced_cert c))
  cert_aside (tree.Node r cs) = join (join (first (Named r.word) (arguments_aside r.arguments)) (first (Did NO_NODES) (certs_aside cs))) (ended r.arguments)

  certs_aside : (cs : RawCerts) → Aside (children_out cs) (children_out (unplaced_certs cs))
  certs_aside tree.NoChild = record { is = refl }
  certs_aside (tree.Child c cs) = join (cert_aside c) (first (Did APPEND_NODE) (certs_aside cs))

entries_aside : (ps : List RawProof) → Aside (flat_map proof_entry ps) (flat_map proof_entry (unplaced_proofs ps))
entries_aside [] = record { is = refl }
entries_aside (p ∷ ps) = join (join (join (obligation_aside p.name) (cert_aside p.cert)) (done APPEND_PROOF)) (entries_aside ps)

proofs_aside : (ps : List RawProof) → Aside (proofs_out ps) (proofs_out (unplaced_proofs ps))
proofs_aside ps = first (Did NO_PROOFS) (entries_aside ps)

-- ---- all is read

-- where a run of tokens ends: within them, or with all of them
data Ends (ts : List Terminal) (n : ℕ) : Type 0 where
  within : (next : Terminal) (more us : List Terminal) → drop n ts ≡ next ∷ more → ts ≡ (take n ts ++ next ∷ []) ++ us → Ends ts n
  whole : take n ts ≡ ts → Ends ts n

ends : (ts : List Terminal) (n : ℕ) → Ends ts n
ends [] zero = whole refl
ends [] (suc n) = whole refl
ends (x ∷ ts) zero = within x ts ts refl refl
ends (x ∷ ts) (suc n) = go (ends ts n)
  where
    go : Ends ts n → Ends (x ∷ ts) (suc n)
    go (within next more us d e) = within next more us d (ap (λ (y : List Terminal). x ∷ y) e)
    go (whole e) = whole (ap (λ (y : List Terminal). x ∷ y) e)

same_items : (r : Rules) (k : List Symbol) (ts : List Terminal) (n : ℕ) (out items : List Item) → Spells r k ts out → IsWhole r k ts n items → out ≡ items
same_items r k ts n out items m w = go (ends ts n)
  where
    go : Ends ts n → out ≡ items
    go (within next more us d e) = absurd (w.longest next more d (begins_front m (take n ts ++ next ∷ []) us e))
    go (whole e) = w.only out (subst (λ (x : List Terminal). Spells r k x out) (sym e) m)

ok_same : (a b : List Token) (r q : Result (List Token) LexFault) → r ≡ Ok a → q ≡ Ok b → r ≡ q → a ≡ b
ok_same a b r q e f g = cc

-- what is written for whatever is read of the printed bytes
told_again : LexesOnce → (opened : Bool) (bytes : List ℕ) (out again : List Lexeme) → SpellsProofs opened bytes out →
    (ts : List Token) (depth to : ℕ) → Lexes bytes start (Ok ts) → SpellsFrom part.Proofs depth opened ts 0 to again → map unplaced again ≡ map unplaced out
told_again once opened bytes out again back ts depth to cut spelled =
    let same : ts ≡ back.tokens = ok_same ts back.tokens (Ok ts) (Ok back.tokens) refl refl (once bytes start (Ok ts) (Ok back.tokens) cut back.cut) in
    let s : IsSpelled part.Proofs depth opened back.tokens (to - 0) again = subst (λ (x : List Token). IsSpelled part.Proofs depth opened x (to - 0) again) same spelled.spelled in
    let e : back.items ≡ s.items = same_items language (symbols_of part.Proofs) (terminals opened 0 back.tokens) (to - 0) back.items s.items back.spelled s.read.whole in
    ap (λ (x : List Lexeme). map unplaced x) (sym s.told) ∙ (ap (λ (x : List Item). map unplaced (lexemes back.tokens x)) (sym e) ∙ back.told)

pub read_again : LexesOnce → ArePrintedBack → AreReadAgain
read_again once printed bytes all depth opened from to ps lexed spelled =
    let back = printed bytes all depth opened from to ps lexed spelled in (
      back,
      λ ts deep end qs cut s. proofs_once (unplaced_proofs qs) (unplaced_proofs ps)
          (sym (proofs_aside qs).is ∙ (told_again once opened (flat_map proof_text ps) (proofs_out ps) (proofs_out qs) back ts deep end cut s ∙ (proofs_aside ps).is)),
    )
