-- The raw text that tokens spell is one.
use Rattle.std.specs.Prelude.{◌≡◌, ℕ, false, List, [], None}
use Rattle.cb_lex.specs.declared.token.Token.{Token}
use Rattle.cb_lex.specs.declared.raw.text.RawText.{RawText}
use Rattle.cb_grammar.specs.declared.parts.Part.TheVariants as part
use Rattle.cb_amn_parse.specs.Processes.{text_out}
use Rattle.cb_amn_parse.specs.Spelling.{IsSpelled}

-- machines alone: with no order there are no channels and no controllers
abbrev pub StandsAlone : RawText → Type 0
StandsAlone t = t.order ≡ None → (t.channels ≡ []) × (t.controllers ≡ [])

-- whatever text the tokens spell, it is the same
abbrev pub TextIsOne : Type 0
TextIsOne =
    (ts : List Token) (taken : ℕ) (x y : RawText) → StandsAlone x → StandsAlone y → IsSpelled part.Text 0 false ts taken (text_out x) → IsSpelled part.Text 0 false ts taken (text_out y) → x ≡ y
