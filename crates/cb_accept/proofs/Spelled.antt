-- What bytes spell is a spelled text, and the system of a well-formed one is typed.
use Rattle.std.proofs.Common.{ℕ, ◌+◌, ◌-◌, ◌^◌, ◌<◌, ◌≤◌, false, List, [], length, drop, Ok, sym, subst, arith, append-nil}
use Rattle.std.proofs.lemmas.List.{length-drop}
use Rattle.cb_lex.specs.Lexes.{Lexes, start}
use Rattle.cb_lex.specs.declared.lexer.TheConstants.{LONGEST_TEXT}
use Rattle.cb_lex.specs.declared.raw.proof.RawProof.{RawProof}
use Rattle.cb_lex.specs.declared.raw.text.RawText.{RawText}
use Rattle.cb_lex.specs.declared.token.Token.{Token}
use Rattle.cb_grammar.specs.declared.parts.Part.TheVariants as part
use Rattle.cb_amn_parse.specs.Lexemes.{Lexeme}
use Rattle.cb_amn_parse.specs.Processes.{text_out}
use Rattle.cb_amn_parse.specs.Spelling.{IsSpelled}
use Rattle.cb_spec.specs.declared.system.System.{System}
use Rattle.cb_spec.specs.Typed.{Typed}
use Rattle.cb_text_laws.specs.Laws.{TextIsTyped, EndsAreMore}
use Rattle.cb_text_laws.specs.SpelledText.{IsSpelledText}
use Rattle.cb_spelled.specs.Laws.{TokensAreBytes}
use Rattle.cb_spelled_texts.specs.Laws.{SpelledIsSpelledText}
use Rattle.cb_accept.specs.Accepting.{SpellsText, IsRead, IsWell}

-- what few tokens spell is a spelled text
pub is_spelled_text : SpelledIsSpelledText → (tokens : List Token) → length tokens < 2 ^ 32 → (at : ℕ) (t : RawText) → SpellsText tokens at t → IsSpelledText t
is_spelled_text shaped tokens few at t spells =
    let whole = subst (λ (ls : List Lexeme). IsSpelled part.Text 0 false (drop 0 tokens) (at + 1 - 0) ls) (sym (append-nil (text_out t))) spells.spelled.spelled in
    shaped part.Text 0 false (drop 0 tokens) (at + 1 - 0) [] t (omega (arith, few, length-drop 0 tokens)) spells.alone whole

few_tokens : TokensAreBytes → (bytes : List ℕ) → length bytes ≤ LONGEST_TEXT → (tokens : List Token) → Lexes bytes start (Ok tokens) → length tokens < 2 ^ 32
few_tokens counted bytes fits tokens cuts = omega (arith, fits, counted bytes start tokens cuts)

pub read_typed : TokensAreBytes → SpelledIsSpelledText → EndsAreMore → TextIsTyped → (bytes : List ℕ) → length bytes ≤ LONGEST_TEXT →
    (t : RawText) (ps : List RawProof) → IsRead bytes t ps → (y : System) → IsWell t y → Typed y
read_typed counted shaped more typed bytes fits t ps read y well =
    typed t (is_spelled_text shaped read.tokens (few_tokens counted bytes fits read.tokens read.cut) read.at t read.text) (more t well.well_formed) y well.system
