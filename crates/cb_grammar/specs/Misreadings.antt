-- What reading a part answers: what is written for it, or its first fault.
use Rattle.std.specs.Prelude.{◌≡◌, ℕ, ◌+◌, ◌-◌, ◌≤◌, Bool, true, false, if◌then◌else◌, List, [], ◌∷◌, Option, Some, None, take, length, map, slice_get, nat_lt}
use Rattle.cb_lex.specs.declared.token.Token.{Token}
use Rattle.cb_lex.specs.declared.token.Place.{Place}
use Rattle.cb_lex.specs.declared.token.Sort.{Sort}
use Rattle.cb_lex.specs.declared.token.Sort.TheVariants as sort
use Rattle.cb_lex.specs.declared.token.Keyword.TheVariants as keyword
use Rattle.cb_lex.specs.declared.token.Sign.{Sign}
use Rattle.cb_lex.specs.declared.token.Sign.TheVariants as sign
use Rattle.cb_engine.specs.declared.Symbol.{Symbol}
use Rattle.cb_engine.specs.declared.Symbol.TheVariants as symbol
use Rattle.cb_engine.specs.declared.Item.{Item}
use Rattle.cb_engine.specs.declared.Reading.{Reading}
use Rattle.cb_engine.specs.declared.Reading.TheVariants as reading
use Rattle.cb_engine.specs.Rules.{Rules, Begins}
use Rattle.cb_engine.specs.Tables.{rules_of}
use Rattle.cb_engine.specs.Readings.{IsWhole, IsFault}
use Rattle.cb_grammar.specs.declared.table.TheConstants.{GRAMMAR}
use Rattle.cb_grammar.specs.declared.parts.Part.{Part}
use Rattle.cb_grammar.specs.declared.reading.SyntaxFault.{SyntaxFault}
use Rattle.cb_grammar.specs.declared.reading.SyntaxFault.TheVariants as fault
use Rattle.cb_grammar.specs.Parts.{number_of}
use Rattle.cb_grammar.specs.Terminals.{terminals}
use Rattle.cb_grammar.specs.Marks.{mark_of}
use Rattle.cb_grammar.specs.Depth.{first_deep, start}

-- what the parts of the language spell
unfoldable pub language : Rules
language = rules_of GRAMMAR

abbrev pub symbols_of : Part → List Symbol
symbols_of p = symbol.Part (number_of p) ∷ []

abbrev pub end : Reading → ℕ
end (reading.Whole to out) = to
end (reading.Fault to) = to

-- which token is the first that is too deep
abbrev pub deep_in : ℕ → List Token → Option ℕ
deep_in depth ts = first_deep depth start 0 (map mark_of ts)

-- no token before this one is too deep
abbrev pub ShallowBefore : ℕ → List Token → ℕ → Type 0
ShallowBefore depth ts to = (d : ℕ) → deep_in depth ts ≡ Some d → to ≤ d

-- The first tokens are the part, as many as begin one, and write the items; and none of them is too deep.
pub record IsRead (p : Part) (depth : ℕ) (opened : Bool) (ts : List Token) (taken : ℕ) (items : List Item) : Type 0 where
  pub whole : IsWhole language (symbols_of p) (terminals opened 0 ts) taken items
  pub shallow : ShallowBefore depth ts taken

-- The token doesn't go on with what the tokens before it begin, which is not the part; and none of these is too deep.
pub record IsStuckAt (p : Part) (depth : ℕ) (opened : Bool) (ts : List Token) (at : ℕ) : Type 0 where
  pub stuck : IsFault language (symbols_of p) (terminals opened 0 ts) at
  pub shallow : ShallowBefore depth ts at

-- The token is the first that is too deep, and the tokens up to it begin the part.
pub record IsDeepAt (p : Part) (depth : ℕ) (opened : Bool) (ts : List Token) (at : ℕ) : Type 0 where
  pub deep : deep_in depth ts ≡ Some at
  pub begun : Begins language (symbols_of p) (take (at + 1) (terminals opened 0 ts))

-- the place of a token, of the last one where there is none, or of a text's first byte where there are no tokens
abbrev pub place_of : Option Token → Place
place_of None = record { line = 1; col = 1 }
place_of (Some t) = t.place

abbrev pub place_at : List Token → ℕ → Place
place_at ts at = place_of (slice_get ts (if nat_lt at (length ts) then at else length ts - 1))

-- the signs that join operands
abbrev pub sign_joins : Sign → Bool
sign_joins sign.And = true
sign_joins sign.Implies = true
sign_joins sign.Equivalent = true
sign_joins sign.Union = true
sign_joins sign.Intersection = true
sign_joins sign.ExternalChoice = true
sign_joins sign.InternalChoice = true
sign_joins _ = false

abbrev pub joins : Sort → Bool
joins (sort.Keyword keyword.Or) = true
joins (sort.Sign s) = sign_joins s
joins _ = false

abbrev pub is_joining : Option Token → Bool
is_joining None = false
is_joining (Some t) = joins t.sort

-- the fault at a token that doesn't go on
abbrev pub refused : List Token → ℕ → SyntaxFault
refused ts at = if is_joining (slice_get ts at) then fault.Mixed (place_at ts at) else fault.Syntax (place_at ts at)

-- The first fault of the tokens, read as the part. At one token a fault of syntax comes before Deep.
abbrev pub Misread : Part → ℕ → Bool → List Token → SyntaxFault → Type 0
Misread p depth opened ts (fault.Syntax place) = (at : ℕ) × IsStuckAt p depth opened ts at × (fault.Syntax place ≡ refused ts at)
Misread p depth opened ts (fault.Mixed place) = (at : ℕ) × IsStuckAt p depth opened ts at × (fault.Mixed place ≡ refused ts at)
Misread p depth opened ts (fault.Deep place) = (at : ℕ) × IsDeepAt p depth opened ts at × (place ≡ place_at ts at)
Misread p depth opened ts fault.Memory = Unit {0}
