-- Chains of processes: how many are begun and ended in what is written, and how many are among the kinds of values.
use Rattle.std.specs.Prelude.{◌≡◌, ℕ, ◌+◌, Bool, true, false, ◌||◌, eqb, List, [], ◌∷◌}
use Rattle.cb_grammar.specs.Signatures.{chain_kind}
use Rattle.cb_grammar.specs.declared.actions.TheConstants.{FIRST_TWO, EXTERNAL, INTERNAL}
use Rattle.cb_amn_parse.specs.declared.value.Value.{Value}
use Rattle.cb_amn_parse.specs.Lexemes.{Lexeme, Did}
use Rattle.cb_amn_parse.specs.Values.{stack_out, kinds_of}

abbrev pub one : Bool → ℕ
one true = 1
one false = 0

abbrev pub begins : ℕ → Bool
begins a = eqb a FIRST_TWO

abbrev pub ends : ℕ → Bool
ends a = eqb a EXTERNAL || eqb a INTERNAL

abbrev pub is_first : Lexeme → Bool
is_first (Did a) = begins a
is_first _ = false

abbrev pub is_last : Lexeme → Bool
is_last (Did a) = ends a
is_last _ = false

-- how many chains are begun
abbrev pub firsts : List Lexeme → ℕ
firsts [] = 0
firsts (x ∷ ls) = one (is_first x) + firsts ls

-- how many chains are ended
abbrev pub lasts : List Lexeme → ℕ
lasts [] = 0
lasts (x ∷ ls) = one (is_last x) + lasts ls

abbrev pub chains : List ℕ → ℕ
chains [] = 0
chains (k ∷ ks) = one (eqb k chain_kind) + chains ks

-- As many chains are on the stack as are begun and not ended in what was written for it. So each has two operands or more.
abbrev pub HasItsChains : List Value → Type 0
HasItsChains stack = firsts (stack_out stack) ≡ lasts (stack_out stack) + chains (kinds_of stack)
