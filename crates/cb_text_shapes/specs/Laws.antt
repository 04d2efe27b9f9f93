-- What every spelled text meets.
use Rattle.std.specs.Prelude.{ℕ, false, List}
use Rattle.cb_lex.specs.declared.token.Token.{Token}
use Rattle.cb_lex.specs.declared.raw.text.RawText.{RawText}
use Rattle.cb_grammar.specs.declared.parts.Part.TheVariants as part
use Rattle.cb_amn_parse.specs.Processes.{text_out}
use Rattle.cb_amn_parse.specs.Spelling.{IsSpelled}
use Rattle.cb_csp_parse.specs.Laws.{StandsAlone}
use Rattle.cb_text_shapes.specs.Whole.{IsWholeText}

-- whatever text the tokens spell, it is whole
abbrev pub TextIsWhole : Type 0
TextIsWhole = (ts : List Token) (taken : ℕ) (t : RawText) → StandsAlone t → IsSpelled part.Text 0 false ts taken (text_out t) → IsWholeText t
