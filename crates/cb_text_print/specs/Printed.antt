-- What is printed of a text is read again as the same text, places aside.
use Rattle.std.specs.Prelude.{◌≡◌, ℕ, false, List, map, Ok}
use Rattle.cb_lex.specs.declared.token.Token.{Token}
use Rattle.cb_lex.specs.declared.raw.text.RawText.{RawText}
use Rattle.cb_lex.specs.Lexes.{Lexes, start}
use Rattle.cb_engine.specs.declared.Item.{Item}
use Rattle.cb_engine.specs.Rules.{Spells}
use Rattle.cb_grammar.specs.declared.parts.Part.TheVariants as part
use Rattle.cb_grammar.specs.Misreadings.{language, symbols_of}
use Rattle.cb_grammar.specs.Terminals.{terminals}
use Rattle.cb_amn_parse.specs.Lexemes.{Lexeme, lexemes}
use Rattle.cb_amn_parse.specs.Processes.{text_out}
use Rattle.cb_amn_parse.specs.Spelling.{SpellsFrom}
use Rattle.cb_csp_parse.specs.Laws.{StandsAlone}
use Rattle.cb_amn_print.specs.Printed.{unplaced}
use Rattle.cb_text_print.specs.Texts.{text_text}
use Rattle.cb_text_print.specs.Unplaced.{unplaced_text}

-- The bytes are cut into tokens that spell a text up to their end, and for them this is written, places aside.
pub record SpellsWhole (bytes : List ℕ) (out : List Lexeme) : Type 0 where
  pub tokens : List Token
  pub items : List Item
  pub cut : Lexes bytes start (Ok tokens)
  pub spelled : Spells language (symbols_of part.Text) (terminals false 0 tokens) items
  pub told : map unplaced (lexemes tokens items) ≡ map unplaced out

-- The tokens from one place to the other spell the text, in which no opened name stands. The last of them is the first PROOF or the
-- end. That a text without an order has no channel and no controller is known before.
pub record SpellsText (tokens : List Token) (from to : ℕ) (t : RawText) : Type 0 where
  pub alone : StandsAlone t
  pub spelled : SpellsFrom part.Text 0 false tokens from to (text_out t)

-- what is printed of a text that the tokens of some text spell, spells this text again
abbrev pub TextIsPrintedBack : Type 0
TextIsPrintedBack = (bytes : List ℕ) (all : List Token) (from to : ℕ) (t : RawText) → Lexes bytes start (Ok all) → SpellsText all from to t → SpellsWhole (text_text t) (text_out t)

-- What is printed of a text that the tokens of some text spell, spells this text again; and whatever text is read of the
-- printed bytes is this one, places aside.
abbrev pub TextIsReadAgain : Type 0
TextIsReadAgain =
    (bytes : List ℕ) (all : List Token) (from to : ℕ) (t : RawText) → Lexes bytes start (Ok all) → SpellsText all from to t →
    SpellsWhole (text_text t) (text_out t) × ((ts : List Token) (end : ℕ) (u : RawText) → Lexes (text_text t) start (Ok ts) → SpellsText ts 0 end u → unplaced_text u ≡ unplaced_text t)
