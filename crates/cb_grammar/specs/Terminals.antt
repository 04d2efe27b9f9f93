-- From the lexer's tokens to those of the grammar.
use Rattle.std.specs.Prelude.{ℕ, suc, ◌+◌, Bool, true, false, ◌&&◌, nat_eq, nat_le, if◌then◌else◌, List, [], ◌∷◌}
use Rattle.std.specs.Cmp.Lexicographic.{pointwise}
use Rattle.cb_lex.specs.declared.token.Token.{Token}
use Rattle.cb_lex.specs.declared.token.Sort.{Sort}
use Rattle.cb_lex.specs.declared.token.Sort.TheVariants as sort
use Rattle.cb_lex.specs.declared.token.Keyword.TheVariants as keyword
use Rattle.cb_engine.specs.declared.Terminal.{Terminal}
use Rattle.cb_grammar.specs.Classes.{keyword_class, sign_class, words}

-- The classes of the words are counted from c on. A text that is none of them is a name, of the class 1.
abbrev pub class_in : ℕ → List (List ℕ) → List ℕ → ℕ
class_in c [] text = 1
class_in c (word ∷ ws) text = if pointwise nat_eq text word then c else class_in (suc c) ws text

abbrev pub word_class : List ℕ → ℕ
word_class text = class_in 128 words text

abbrev pub is_capital : ℕ → Bool
is_capital c = nat_le 65 c && nat_le c 90

abbrev pub has_two_capitals : List ℕ → Bool
has_two_capitals [] = false
has_two_capitals (a ∷ []) = false
has_two_capitals (a ∷ b ∷ text) = is_capital a && is_capital b

-- an opened name is a name, or a token that no part takes
abbrev pub opened_class : Bool → ℕ
opened_class true = 1
opened_class false = 119

-- the class of a token, where opened names may stand or not
abbrev pub class_of : Bool → Sort → ℕ
class_of opened (sort.Word text) = word_class text
class_of opened (sort.Opened text number) = opened_class opened
class_of opened (sort.Number n) = 2
class_of opened (sort.Keyword k) = keyword_class k
class_of opened (sort.Sign s) = sign_class s
class_of opened sort.Finish = 3

-- opened names may stand behind a PROOF, and where they could before
abbrev pub opens : Bool → Sort → Bool
opens true s = true
opens false (sort.Keyword keyword.Proof) = true
opens false _ = false

-- the tokens with their classes, numbered from i on
abbrev pub terminals : Bool → ℕ → List Token → List Terminal
terminals opened i [] = []
terminals opened i (t ∷ ts) = record { class = class_of opened t.sort; index = i } ∷ terminals (opens opened t.sort) (i + 1) ts
