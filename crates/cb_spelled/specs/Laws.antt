-- What every spelled text is.
use Rattle.std.specs.Prelude.{ℕ, ◌+◌, ◌<◌, ◌≤◌, ◌^◌, Bool, List, ◌++◌, length, Ok}
use Rattle.cb_lex.specs.declared.token.Place.{Place}
use Rattle.cb_lex.specs.declared.token.Token.{Token}
use Rattle.cb_lex.specs.declared.raw.text.RawText.{RawText}
use Rattle.cb_lex.specs.Lexes.{Lexes}
use Rattle.cb_grammar.specs.declared.parts.Part.{Part}
use Rattle.cb_amn_parse.specs.Lexemes.{Lexeme}
use Rattle.cb_amn_parse.specs.Processes.{text_out}
use Rattle.cb_amn_parse.specs.Spelling.{IsSpelled}
use Rattle.cb_typing.specs.WrittenText.{IsWrittenText}

-- whatever part fewer than 2^32 tokens spell, a text at the beginning of what is written for it has no part that is empty where there
-- may be none, and nothing that 32 bits can't count
abbrev pub SpelledIsWritten : Type 0
SpelledIsWritten = (p : Part) (depth : ℕ) (opened : Bool) (ts : List Token) (taken : ℕ) (rest : List Lexeme) (t : RawText) → length ts < 2 ^ 32 → IsSpelled p depth opened ts taken (text_out t ++ rest) → IsWrittenText t.machines

-- bytes are cut into one token more at most: the end is one too
abbrev pub TokensAreBytes : Type 0
TokensAreBytes = (bytes : List ℕ) (p : Place) (tokens : List Token) → Lexes bytes p (Ok tokens) → length tokens ≤ length bytes + 1
