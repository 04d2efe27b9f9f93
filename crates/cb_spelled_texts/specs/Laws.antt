-- What every spelled text is.
use Rattle.std.specs.Prelude.{ℕ, ◌<◌, ◌^◌, Bool, List, ◌++◌, length}
use Rattle.cb_lex.specs.declared.token.Token.{Token}
use Rattle.cb_lex.specs.declared.raw.text.RawText.{RawText}
use Rattle.cb_grammar.specs.declared.parts.Part.{Part}
use Rattle.cb_amn_parse.specs.Lexemes.{Lexeme}
use Rattle.cb_amn_parse.specs.Processes.{text_out}
use Rattle.cb_amn_parse.specs.Spelling.{IsSpelled}
use Rattle.cb_csp_parse.specs.Laws.{StandsAlone}
use Rattle.cb_text_laws.specs.SpelledText.{IsSpelledText}

-- Whatever part fewer than 2^32 tokens spell, a text at the beginning of what is written for it is a spelled text: no part of it is empty
-- where there may be none, each chain of processes has two operands or more, a system has a controller, and there is nothing that 32 bits
-- can't count. What is written for a text without an order is silent on channels and controllers; that it has none is known before.
abbrev pub SpelledIsSpelledText : Type 0
SpelledIsSpelledText =
    (p : Part) (depth : ℕ) (opened : Bool) (ts : List Token) (taken : ℕ) (rest : List Lexeme) (t : RawText) → length ts < 2 ^ 32 → StandsAlone t → IsSpelled p depth opened ts taken (text_out t ++ rest) → IsSpelledText t
