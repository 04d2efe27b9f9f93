-- Which raw value the tokens spell.
use Rattle.std.specs.Prelude.{◌≡◌, ℕ, ◌-◌, ◌≤◌, Bool, Some, List, [], ◌∷◌, drop, slice_get}
use Rattle.cb_lex.specs.declared.token.Token.{Token}
use Rattle.cb_engine.specs.declared.Item.{Item}
use Rattle.cb_engine.specs.declared.Item.TheVariants as item
use Rattle.cb_engine.specs.Rules.{group}
use Rattle.cb_grammar.specs.declared.parts.Part.{Part}
use Rattle.cb_grammar.specs.Misreadings.{IsRead}
use Rattle.cb_grammar.specs.Signatures.{word_kind}
use Rattle.cb_amn_parse.specs.Lexemes.{Lexeme, lexemes}
use Rattle.cb_amn_parse.specs.Own.{sort_kind}

-- The first tokens are the part, as many as begin one, and this is written for them.
pub record IsSpelled (p : Part) (depth : ℕ) (opened : Bool) (ts : List Token) (taken : ℕ) (out : List Lexeme) : Type 0 where
  pub items : List Item
  pub read : IsRead p depth opened ts taken items
  pub told : lexemes ts items ≡ out

-- The tokens from one place to the other spell what this is written for.
pub record SpellsFrom (p : Part) (depth : ℕ) (opened : Bool) (ts : List Token) (from to : ℕ) (out : List Lexeme) : Type 0 where
  pub onward : from ≤ to
  pub spelled : IsSpelled p depth opened (drop from ts) (to - from) out

-- a word of the items is a token, of the kind that it has in the grammar
abbrev pub IsHeard : List Token → Item → Type 0
IsHeard ts (item.Word t) = (token : Token) × (slice_get ts t.index ≡ Some token) × (sort_kind token.sort ≡ word_kind (group t.class))
IsHeard ts (item.Do action) = Unit {0}

abbrev pub AreHeard : List Token → List Item → Type 0
AreHeard ts [] = Unit {0}
AreHeard ts (i ∷ items) = IsHeard ts i × AreHeard ts items
