-- What is printed of proofs spells them again.
use Rattle.std.proofs.Common.{◌≡◌, ℕ, zero, suc, Bool, true, false, List, [], ◌∷◌, ◌++◌, drop, refl, sym, ◌∙◌, arith, eqb, subst, inl}
use Rattle.std.specs.Prelude.{Ok, ◌-◌, slice_get}
use Rattle.std.proofs.lemmas.List.{append-nil}
use Rattle.std.specs.List.{flat_map}
use Rattle.cb_lex.specs.declared.token.Place.{Place}
use Rattle.cb_lex.specs.declared.token.Token.{Token}
use Rattle.cb_lex.specs.declared.token.Sort.{Sort}
use Rattle.cb_lex.specs.declared.token.Sort.TheVariants as sort
use Rattle.cb_lex.specs.declared.raw.proof.RawProof.{RawProof}
use Rattle.cb_lex.specs.Lexes.{Lexes, start}
use Rattle.cb_engine.specs.declared.Symbol.{Symbol}
use Rattle.cb_engine.specs.declared.Symbol.TheVariants.{Take, Part}
use Rattle.cb_engine.specs.declared.Terminal.{Terminal}
use Rattle.cb_engine.specs.declared.Item.{Item}
use Rattle.cb_engine.specs.declared.Item.TheVariants as item
use Rattle.cb_engine.specs.Rules.{Spells}
use Rattle.cb_engine.specs.Lines.{alternatives, OneOf}
use Rattle.cb_grammar.specs.declared.table.TheConstants.{GRAMMAR}
use Rattle.cb_grammar.specs.declared.parts.Part.TheVariants as language_part
use Rattle.cb_grammar.specs.Misreadings.{language, symbols_of}
use Rattle.cb_grammar.specs.Numbers as part
use Rattle.cb_grammar.specs.Terminals.{terminals}
use Rattle.cb_amn_parse.specs.Lexemes.{Lexeme, heard_at, heard, lexemes}
use Rattle.cb_amn_parse.specs.Proofs.{proofs_out}
use Rattle.cb_amn_parse.specs.Spelling.{IsSpelled}
use Rattle.cb_amn_print.proofs.Fronts.{IsToken}
use Rattle.cb_amn_print.proofs.Scripts.{Piece, terms, items, silent, and_then, cut_of}
use Rattle.cb_amn_print.proofs.Ended.{ended_told}
use Rattle.cb_amn_print.proofs.Lines.{Good, plain, numbered}
use Rattle.cb_amn_print.proofs.Premises.{AllTokens, lexed_read, dropped_read}
use Rattle.cb_amn_print.proofs.Spelled.{Laws, Fine, AllFine}
use Rattle.cb_cert_shapes.specs.Full.{AreFull}
use Rattle.cb_cert_shapes.specs.Laws.{ProofsAreFull}
use Rattle.cb_cert_print.specs.Proofs.{proof_text}
use Rattle.cb_cert_print.specs.Printed.{SpellsProofs, ArePrintedBack}
use Rattle.cb_cert_print.proofs.Pieces.{proofs_script, proofs-text, proofs-told}
use Rattle.cb_cert_print.proofs.Spelled.{proofs_good}
use Rattle.cb_cert_print.proofs.Ended.{with_end, ended_classes, ended_items, opened_by_proof, opened_at_end}

-- ---- what some text spells may be printed

fine_token : (s : Sort) (p : Place) → IsToken s → Fine true (heard_at s p)
fine_token (sort.Word text) p r = (r, plain text refl)
fine_token (sort.Opened text zero) p r = absurd (omega (arith, r.1.1.0))
fine_token (sort.Opened text (suc n)) p r = let e : eqb (suc n) 0 ≡ false = grind arith in rw e (r, numbered text (suc n) refl refl)
fine_token (sort.Number n) p r = r
fine_token (sort.Keyword k) p r = r
fine_token (sort.Sign s) p r = tt
fine_token sort.Finish p r = tt

heard_fine : (ts : List Token) (i : ℕ) → AllTokens ts → Fine true (heard (slice_get ts i))
heard_fine [] i a = tt
heard_fine (t ∷ ts) zero a = fine_token t.sort t.place a.0
heard_fine (t ∷ ts) (suc i) a = heard_fine ts i a.1

all_fine : (ts : List Token) (all : List Item) → AllTokens ts → AllFine true (lexemes ts all)
all_fine ts [] a = tt
all_fine ts (item.Word t ∷ all) a = (heard_fine ts t.index a, all_fine ts all a)
all_fine ts (item.Do n ∷ all) a = (tt, all_fine ts all a)

-- ---- from the pieces

only_proofs_lines : alternatives GRAMMAR part.only_proofs ≡ (Part part.proofs ∷ (Take 3 ∷ [])) ∷ []
only_proofs_lines = refl

-- the classes are the same where opened names may not stand before the first PROOF
opened_anyway : (opened : Bool) (ps : List RawProof) (ts : List Token) → terminals true 0 ts ≡ terms true 0 (with_end (proofs_script ps)) → terminals opened 0 ts ≡ terminals true 0 ts
opened_anyway true ps ts e = refl
opened_anyway false [] ts e = opened_at_end ts 0 e
opened_anyway false (p ∷ ps) ts e = opened_by_proof ts 0 _ e

spells_back : Laws → (opened : Bool) (ps : List RawProof) → Good true (Part part.proofs ∷ []) (proofs_script ps) → SpellsProofs opened (flat_map proof_text ps) (proofs_out ps)
spells_back laws opened ps g =
    let p : List Piece = proofs_script ps in
    let q = cut_of true p start g.fit in
    let all : List Token = q.tokens ++ q.last ∷ [] in
    let classes : terminals true 0 all ≡ terms true 0 (with_end p) = ended_classes p 0 q.tokens q.last q.ends (q.classes 0) in
    let end = silent true 3 sort.Finish refl in
    let whole = and_then true g.spelled end in
    let line : Spells language ((Part part.proofs ∷ (Take 3 ∷ [])) ++ []) (terms true 0 (with_end p)) (items true 0 (with_end p)) = whole.runs 0 in
    let lines : OneOf (λ a. Spells language (a ++ []) (terms true 0 (with_end p)) (items true 0 (with_end p))) (alternatives GRAMMAR part.only_proofs) = subst (λ (l : List (List Symbol)). OneOf (λ a. Spells language (a ++ []) (terms true 0 (with_end p)) (items true 0 (with_end p))) l) (sym only_proofs_lines) (inl line) in
    let run : Spells language (symbols_of language_part.Proofs) (terms true 0 (with_end p)) (items true 0 (with_end p)) = (laws.plain part.only_proofs [] (terms true 0 (with_end p)) (items true 0 (with_end p))).1 lines in
    record {
      tokens = all;
      items = items true 0 p;
      cut = subst (λ (x : List ℕ). Lexes x start (Ok all)) (proofs-text ps) q.cut;
      spelled = subst (λ (ts : List Terminal). Spells language (symbols_of language_part.Proofs) ts (items true 0 p)) (sym (opened_anyway opened ps all classes ∙ classes))
          (subst (λ (x : List Item). Spells language (symbols_of language_part.Proofs) (terms true 0 (with_end p)) x) (ended_items p 0) run);
      told = ended_told true p 0 q.tokens (q.last ∷ []) (q.told 0 q.tokens refl) ∙ proofs-told ps;
    }

pub printed_back : ProofsAreFull → Laws → ArePrintedBack
printed_back full laws bytes all depth opened from to ps lexed spelled =
    let a = dropped_read from all (lexed_read lexed) in
    let s = spelled.spelled in
    let alone : IsSpelled language_part.Proofs depth opened (drop from all) (to - from) (proofs_out ps ++ []) = subst (λ (x : List Lexeme). IsSpelled language_part.Proofs depth opened (drop from all) (to - from) x) (sym (append-nil (proofs_out ps))) s in
    let u : AreFull ps = full language_part.Proofs depth opened (drop from all) (to - from) [] [] ps alone in
    let f : AllFine true (proofs_out ps) = subst (λ (x : List Lexeme). AllFine true x) s.told (all_fine (drop from all) s.items a) in
    spells_back laws opened ps (proofs_good laws ps u f)
