-- What is printed of a text spells it again.
use Rattle.std.proofs.Common.{◌≡◌, ℕ, false, List, [], ◌∷◌, ◌++◌, drop, refl, sym, ◌∙◌, subst, inl, inr}
use Rattle.std.specs.Prelude.{Ok, ◌-◌}
use Rattle.cb_lex.specs.declared.token.Token.{Token}
use Rattle.cb_lex.specs.declared.token.Sort.TheVariants as sort
use Rattle.cb_lex.specs.declared.raw.text.RawText.{RawText}
use Rattle.cb_lex.specs.Lexes.{Lexes, start}
use Rattle.cb_engine.specs.declared.Symbol.TheVariants.{Take, Part}
use Rattle.cb_engine.specs.declared.Terminal.{Terminal}
use Rattle.cb_engine.specs.declared.Item.{Item}
use Rattle.cb_engine.specs.Rules.{Spells}
use Rattle.cb_grammar.specs.declared.parts.Part.TheVariants as language_part
use Rattle.cb_grammar.specs.Misreadings.{language, symbols_of}
use Rattle.cb_grammar.specs.Numbers as part
use Rattle.cb_grammar.specs.Terminals.{terminals}
use Rattle.cb_written.specs.Proofs.{BeforeProofsIsWritten}
use Rattle.cb_written.specs.Texts.{finish}
use Rattle.cb_amn_parse.specs.Processes.{text_out}
use Rattle.cb_amn_print.proofs.Scripts.{Piece, terms, items, silent, and_then, cut_of}
use Rattle.cb_amn_print.proofs.Ended.{ended_told}
use Rattle.cb_amn_print.proofs.Premises.{lexed_read, dropped_read}
use Rattle.cb_text_shapes.specs.Laws.{TextIsWhole}
use Rattle.cb_text_print.specs.Texts.{text_text}
use Rattle.cb_text_print.specs.Printed.{SpellsWhole, TextIsPrintedBack}
use Rattle.cb_text_print.proofs.Heard.{text_fine}
use Rattle.cb_text_print.proofs.Spelled.{G}
use Rattle.cb_text_print.proofs.TextPieces.{text_script, text-text, text-told}
use Rattle.cb_text_print.proofs.TextSpelled.{TextLaws, text_good}
use Rattle.cb_text_print.proofs.Ended.{with_end, ended_classes, ended_items}

spells_back : BeforeProofsIsWritten → (t : RawText) → G (Part part.text ∷ []) (text_script t) → SpellsWhole (text_text t) (text_out t)
spells_back before t g =
    let p : List Piece = text_script t in
    let q = cut_of false p start g.fit in
    let all : List Token = q.tokens ++ q.last ∷ [] in
    let classes : terminals false 0 all ≡ terms false 0 (with_end p) = ended_classes p 0 false q.tokens q.last q.ends (q.classes 0) in
    let whole = and_then false g.spelled (silent false finish sort.Finish refl) in
    let line : Spells language (Part part.text ∷ (Take finish ∷ [])) (terms false 0 (with_end p)) (items false 0 (with_end p)) = whole.runs 0 in
    let run : Spells language (symbols_of language_part.Text) (terms false 0 (with_end p)) (items false 0 (with_end p)) = (before (terms false 0 (with_end p)) (items false 0 (with_end p))).1 (_, ((_, _, refl, inr (inl refl), refl), line)) in
    record {
      tokens = all;
      items = items false 0 p;
      cut = subst (λ (x : List ℕ). Lexes x start (Ok all)) (text-text t) q.cut;
      spelled = subst (λ (ts : List Terminal). Spells language (symbols_of language_part.Text) ts (items false 0 p)) (sym classes)
          (subst (λ (x : List Item). Spells language (symbols_of language_part.Text) (terms false 0 (with_end p)) x) (ended_items p 0) run);
      told = ended_told false p 0 q.tokens (q.last ∷ []) (q.told 0 q.tokens refl) ∙ text-told t;
    }

pub printed_back : TextIsWhole → TextLaws → BeforeProofsIsWritten → TextIsPrintedBack
printed_back whole laws before bytes all from to t lexed s =
    let q = s.spelled in
    let a = dropped_read from all (lexed_read lexed) in
    let f = text_fine before (drop from all) (to - from) (text_out t) a q.spelled in
    spells_back before t (text_good laws t (whole (drop from all) (to - from) t s.alone q.spelled) f)
