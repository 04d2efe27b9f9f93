-- What holds of all texts.
use Rattle.std.specs.Prelude.{◌≡◌, ℕ, ◌<◌, ◌≤◌, true, false, List, drop, length, Some, Result}
use Rattle.std.specs.Char.{is_ascii_digit}
use Rattle.cb_lex.specs.declared.token.Place.{Place}
use Rattle.cb_lex.specs.declared.token.Token.{Token}
use Rattle.cb_lex.specs.declared.token.Keyword.{Keyword}
use Rattle.cb_lex.specs.declared.token.Sign.{Sign}
use Rattle.cb_lex.specs.declared.token.Sort.TheVariants as sort
use Rattle.cb_lex.specs.declared.lexer.LexFault.{LexFault}
use Rattle.cb_lex.specs.declared.front.Front.{Front}
use Rattle.cb_lex.specs.declared.front.Front.TheVariants.{Nothing, Gap, Makes, Bad, Long, Open}
use Rattle.cb_lex.specs.Spelling.{letters, keyword_of, marks, begins, sign_at}
use Rattle.cb_lex.specs.Lexis.{is_word, starts, marks_number, front}
use Rattle.cb_lex.specs.Lexes.{Lexes}

-- a text is cut in one way
abbrev pub LexesOnce : Type 0
LexesOnce = (bs : List ℕ) (p : Place) (r q : Result (List Token) LexFault) → Lexes bs p r → Lexes bs p q → r ≡ q

-- What stands at the front of bytes goes on for as long as it can: after a word no byte of a word follows, nor `#` and a digit, unless it is opened
-- already; after digits no digit; no longer sign is there; and where no token begins, no sign does.
abbrev pub IsLongest : List ℕ → Front → Type 0
IsLongest bs Nothing = Unit {0}
IsLongest bs (Gap n) = Unit {0}
IsLongest bs (Makes (sort.Word word) n) =
    (n ≡ length word → (starts is_word (drop n bs) ≡ false) × (marks_number (drop n bs) ≡ false)) × (length word < n → starts is_ascii_digit (drop n bs) ≡ false)
IsLongest bs (Makes (sort.Opened word number) n) = starts is_ascii_digit (drop n bs) ≡ false
IsLongest bs (Makes (sort.Number value) n) = starts is_ascii_digit (drop n bs) ≡ false
IsLongest bs (Makes (sort.Keyword k) n) = starts is_word (drop n bs) ≡ false
IsLongest bs (Makes (sort.Sign s) n) = (t : Sign) → begins (marks t) bs ≡ true → length (marks t) ≤ n
IsLongest bs (Makes sort.Finish n) = ⊥
IsLongest bs Bad = (t : Sign) → begins (marks t) bs ≡ false
IsLongest bs (Long n) = Unit {0}
IsLongest bs Open = Unit {0}

abbrev pub TakesTheLongest : Type 0
TakesTheLongest = (bs : List ℕ) → IsLongest bs (front bs)

-- each keyword is read, and only from its letters
abbrev pub ReadsKeywords : Type 0
ReadsKeywords = ((k : Keyword) → keyword_of (letters k) ≡ Some k) × ((word : List ℕ) (k : Keyword) → keyword_of word ≡ Some k → word ≡ letters k)

-- each sign is read, and only where it is
abbrev pub ReadsSigns : Type 0
ReadsSigns = ((s : Sign) → sign_at (marks s) ≡ Some s) × ((bs : List ℕ) (s : Sign) → sign_at bs ≡ Some s → begins (marks s) bs ≡ true)
