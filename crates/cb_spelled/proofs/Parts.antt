-- Words of lists of parts.
use Rattle.std.proofs.Common.{◌≡◌, ◌+◌, ◌≤◌, List, [], ◌∷◌, ◌++◌, length, arith}
use Rattle.std.specs.List.{flat_map}
use Rattle.cb_amn_parse.specs.Lexemes.{Lexeme, Named, Said, Did, Lost}
use Rattle.cb_shapes.specs.Words.{words}

pub words_append : (a b : List Lexeme) → words (a ++ b) ≡ words a + words b
words_append [] b = omega arith
words_append (Named x ∷ a) b = let h = words_append a b in omega (arith, h)
words_append (Said s p ∷ a) b = let h = words_append a b in omega (arith, h)
words_append (Lost ∷ a) b = let h = words_append a b in omega (arith, h)
words_append (Did x ∷ a) b = words_append a b

-- parts of at least a word each are no more than their words
pub parts_are_words : {X : Type 0} (out : X → List Lexeme) → ((x : X) → 1 ≤ words (out x)) → (xs : List X) → length xs ≤ words (flat_map out xs)
parts_are_words out some [] = omega arith
parts_are_words out some (x ∷ xs) = let h = parts_are_words out some xs in omega (arith, some x, h, words_append (out x) (flat_map out xs))
