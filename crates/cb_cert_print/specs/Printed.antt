-- What is printed of proofs is read again as the same proofs, places aside.
use Rattle.std.specs.Prelude.{◌≡◌, ℕ, Bool, List, map, Ok}
use Rattle.std.specs.List.{flat_map}
use Rattle.cb_lex.specs.declared.token.Token.{Token}
use Rattle.cb_lex.specs.declared.raw.proof.RawProof.{RawProof}
use Rattle.cb_lex.specs.Lexes.{Lexes, start}
use Rattle.cb_engine.specs.declared.Item.{Item}
use Rattle.cb_engine.specs.Rules.{Spells}
use Rattle.cb_grammar.specs.declared.parts.Part.TheVariants as part
use Rattle.cb_grammar.specs.Misreadings.{language, symbols_of}
use Rattle.cb_grammar.specs.Terminals.{terminals}
use Rattle.cb_amn_parse.specs.Lexemes.{Lexeme, lexemes}
use Rattle.cb_amn_parse.specs.Spelling.{SpellsFrom}
use Rattle.cb_amn_parse.specs.Proofs.{proofs_out}
use Rattle.cb_amn_print.specs.Printed.{unplaced}
use Rattle.cb_cert_print.specs.Proofs.{proof_text}
use Rattle.cb_cert_print.specs.Unplaced.{unplaced_proofs}

-- The bytes are cut into tokens that spell proofs up to the end of the text, and for them this is written, places aside.
pub record SpellsProofs (opened : Bool) (bytes : List ℕ) (out : List Lexeme) : Type 0 where
  pub tokens : List Token
  pub items : List Item
  pub cut : Lexes bytes start (Ok tokens)
  pub spelled : Spells language (symbols_of part.Proofs) (terminals opened 0 tokens) items
  pub told : map unplaced (lexemes tokens items) ≡ map unplaced out

-- the texts of proofs that the tokens of some text spell, one behind another, spell these proofs again
abbrev pub ArePrintedBack : Type 0
ArePrintedBack =
    (bytes : List ℕ) (all : List Token) (depth : ℕ) (opened : Bool) (from to : ℕ) (ps : List RawProof) → Lexes bytes start (Ok all) → SpellsFrom part.Proofs depth opened all from to (proofs_out ps) → SpellsProofs opened (flat_map proof_text ps) (proofs_out ps)

-- What is printed of proofs spells these proofs again; and whatever proofs are read of the printed bytes are these, places
-- aside.
abbrev pub AreReadAgain : Type 0
AreReadAgain =
    (bytes : List ℕ) (all : List Token) (depth : ℕ) (opened : Bool) (from to : ℕ) (ps : List RawProof) → Lexes bytes start (Ok all) → SpellsFrom part.Proofs depth opened all from to (proofs_out ps) →
    SpellsProofs opened (flat_map proof_text ps) (proofs_out ps) ×
    ((ts : List Token) (deep end : ℕ) (qs : List RawProof) → Lexes (flat_map proof_text ps) start (Ok ts) → SpellsFrom part.Proofs deep opened ts 0 end (proofs_out qs) → unplaced_proofs qs ≡ unplaced_proofs ps)
