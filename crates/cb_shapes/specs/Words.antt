-- How many words there are among what is written for tokens.
use Rattle.std.specs.Prelude.{ℕ, ◌+◌, List, [], ◌∷◌}
use Rattle.cb_amn_parse.specs.Lexemes.{Lexeme, Named, Said, Did, Lost}

-- all but the actions
abbrev pub words : List Lexeme → ℕ
words [] = 0
words (Named x ∷ ls) = words ls + 1
words (Said s p ∷ ls) = words ls + 1
words (Lost ∷ ls) = words ls + 1
words (Did a ∷ ls) = words ls
