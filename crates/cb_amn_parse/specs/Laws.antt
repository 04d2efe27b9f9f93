-- The raw value that tokens spell is one.
use Rattle.std.specs.Prelude.{◌≡◌, ℕ, Bool, List}
use Rattle.cb_lex.specs.declared.token.Token.{Token}
use Rattle.cb_grammar.specs.declared.parts.Part.{Part}
use Rattle.cb_amn_parse.specs.Lexemes.{Lexeme}
use Rattle.cb_amn_parse.specs.Spelling.{IsSpelled}

-- whatever the tokens spell, it is the same
abbrev pub IsOne : {X : Type 0} → (X → List Lexeme) → Part → Type 0
IsOne {X = X} out p = (depth : ℕ) (opened : Bool) (ts : List Token) (taken : ℕ) (x y : X) → IsSpelled p depth opened ts taken (out x) → IsSpelled p depth opened ts taken (out y) → x ≡ y
