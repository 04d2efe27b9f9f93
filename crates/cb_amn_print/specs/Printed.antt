-- What is printed is read again as the same value, places aside.
use Rattle.std.specs.Prelude.{◌≡◌, ℕ, Bool, List, [], ◌∷◌, ◌++◌, map, Ok}
use Rattle.cb_lex.specs.declared.token.Token.{Token}
use Rattle.cb_lex.specs.declared.token.Sort.TheVariants as sort
use Rattle.cb_lex.specs.Lexes.{Lexes, start}
use Rattle.cb_engine.specs.declared.Item.{Item}
use Rattle.cb_engine.specs.Rules.{Spells}
use Rattle.cb_grammar.specs.declared.parts.Part.{Part}
use Rattle.cb_grammar.specs.Misreadings.{language, symbols_of}
use Rattle.cb_grammar.specs.Terminals.{terminals}
use Rattle.cb_amn_parse.specs.Lexemes.{Lexeme, Named, Said, Did, Lost, lexemes}
use Rattle.cb_amn_parse.specs.Spelling.{SpellsFrom}

-- what is written, places aside
abbrev pub unplaced : Lexeme → Lexeme
unplaced (Named x) = Named (record { text = x.text; number = x.number; place = start })
unplaced (Said s p) = Said s start
unplaced (Did a) = Did a
unplaced Lost = Lost

-- The bytes are cut into tokens that spell the part, and for them this is written, places aside.
pub record SpellsBack (p : Part) (opened : Bool) (bytes : List ℕ) (out : List Lexeme) : Type 0 where
  pub tokens : List Token
  pub last : Token
  pub items : List Item
  pub ends : last.sort ≡ sort.Finish
  pub cut : Lexes bytes start (Ok (tokens ++ last ∷ []))
  pub spelled : Spells language (symbols_of p) (terminals opened 0 tokens) items
  pub told : map unplaced (lexemes (tokens ++ last ∷ []) items) ≡ map unplaced out

-- what is printed of a value that some tokens of some text spell, spells it again
abbrev pub IsPrintedBack : {X : Type 0} → (X → List ℕ) → (X → List Lexeme) → Part → Type 0
IsPrintedBack {X = X} text_of out p =
    (bytes : List ℕ) (all : List Token) (depth : ℕ) (opened : Bool) (from to : ℕ) (x : X) → Lexes bytes start (Ok all) → SpellsFrom p depth opened all from to (out x) → SpellsBack p opened (text_of x) (out x)

-- What is printed of a value that some tokens of some text spell, spells it again; and whatever value is read of the
-- printed bytes is this one, places aside.
abbrev pub IsReadAgain : {X : Type 0} → (X → List ℕ) → (X → List Lexeme) → (X → X) → Part → Type 0
IsReadAgain {X = X} text_of out aside p =
    (bytes : List ℕ) (all : List Token) (depth : ℕ) (opened : Bool) (from to : ℕ) (x : X) → Lexes bytes start (Ok all) → SpellsFrom p depth opened all from to (out x) →
    SpellsBack p opened (text_of x) (out x) × ((ts : List Token) (deep end : ℕ) (y : X) → Lexes (text_of x) start (Ok ts) → SpellsFrom p deep opened ts 0 end (out y) → aside y ≡ aside x)
