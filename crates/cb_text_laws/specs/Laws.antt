-- A whole text without a fault is a typed system.
use Rattle.cb_lex.specs.declared.raw.text.RawText.{RawText}
use Rattle.cb_spec.specs.declared.system.System.{System}
use Rattle.cb_spec.specs.Typed.{Typed}
use Rattle.cb_text_laws.specs.SpelledText.{IsSpelledText}
use Rattle.cb_text_laws.specs.WholeText.{WellFormed, WellFormedButEnds, IsSystemOf}

-- a text in which no code occurs, but that a channel may have no sender or no receiver, is a typed system
abbrev pub TextIsTyped : Type 0
TextIsTyped = (t : RawText) → IsSpelledText t → WellFormedButEnds t → (y : System) → IsSystemOf t y → Typed y

-- a text without a fault has both ends of each channel too
abbrev pub EndsAreMore : Type 0
EndsAreMore = (t : RawText) → WellFormed t → WellFormedButEnds t
