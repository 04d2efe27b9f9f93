-- What the grammar writes for a text, in postfix order: its names and other words, and the actions over them.
use Rattle.std.specs.Prelude.{ℕ, List, [], ◌∷◌, Option, Some, None, slice_get}
use Rattle.cb_lex.specs.declared.token.Token.{Token}
use Rattle.cb_lex.specs.declared.token.Place.{Place}
use Rattle.cb_lex.specs.declared.token.Sort.{Sort}
use Rattle.cb_lex.specs.declared.token.Sort.TheVariants as sort
use Rattle.cb_lex.specs.declared.raw.name.RawName.{RawName}
use Rattle.cb_engine.specs.declared.Item.{Item}
use Rattle.cb_engine.specs.declared.Item.TheVariants as item

pub data Lexeme : Type 0 where
  Named : RawName → Lexeme
  Said : Sort → Place → Lexeme
  Did : ℕ → Lexeme
  Lost : Lexeme

-- a name as it is written is the opened name with the number 0
abbrev pub heard_at : Sort → Place → Lexeme
heard_at (sort.Word text) p = Named (record { text = text; number = 0; place = p })
heard_at (sort.Opened text number) p = Named (record { text = text; number = number; place = p })
heard_at (sort.Number n) p = Said (sort.Number n) p
heard_at (sort.Keyword k) p = Said (sort.Keyword k) p
heard_at (sort.Sign s) p = Said (sort.Sign s) p
heard_at sort.Finish p = Said sort.Finish p

abbrev pub heard : Option Token → Lexeme
heard None = Lost
heard (Some t) = heard_at t.sort t.place

-- the items that are written for tokens, told by the tokens
abbrev pub lexeme : List Token → Item → Lexeme
lexeme ts (item.Word t) = heard (slice_get ts t.index)
lexeme ts (item.Do action) = Did action

abbrev pub lexemes : List Token → List Item → List Lexeme
lexemes ts [] = []
lexemes ts (i ∷ items) = lexeme ts i ∷ lexemes ts items
