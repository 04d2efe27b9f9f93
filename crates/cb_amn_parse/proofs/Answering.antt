-- From the values on the stack to what the tokens spell.
use Rattle.std.proofs.Common.{◌≡◌, ℕ, ◌<◌, ◌≤◌, ◌+◌, ◌-◌, zero, suc, Bool, List, [], ◌∷◌, ◌++◌, refl, ap, sym, ◌∙◌, map, reverse, length, arith, drop, get_or, subst, drop-cons}
use Rattle.std.specs.Prelude.{Some}
use Rattle.std.proofs.lemmas.Grind.{common_steps}
use Rattle.cb_lex.specs.declared.token.Token.{Token}
use Rattle.cb_engine.specs.declared.Item.{Item}
use Rattle.cb_engine.specs.Kinds.{kinds}
use Rattle.cb_grammar.specs.declared.parts.Part.{Part}
use Rattle.cb_grammar.specs.Signatures.{signatures}
use Rattle.cb_amn_parse.specs.declared.value.Value.{Value}
use Rattle.cb_amn_parse.specs.Lexemes.{Lexeme}
use Rattle.cb_amn_parse.specs.Spelling.{IsSpelled, SpellsFrom, IsHeard, AreHeard}
use Rattle.cb_amn_parse.specs.Values.{kinds_of, kind_of, stack_out}

-- no value is left where no kind is
none_left : (s : List Value) → kinds_of s ≡ [] → stack_out s ≡ []
none_left [] e = refl
none_left (x ∷ s) e = let n : length (map kind_of (reverse (x ∷ s))) ≡ 0 = rw e refl in absurd (grind (arith, common_steps))

-- what is written for the one value that was on the stack
alone : (old new : List Value) (k : ℕ) (out : List Lexeme) → kinds_of old ≡ k ∷ [] → kinds_of old ≡ k ∷ kinds_of new → stack_out old ≡ stack_out new ++ out → stack_out old ≡ out
alone old new k out one below e =
    let n : kinds_of new ≡ [] = cc in
    let o : stack_out new ≡ [] = none_left new n in
    rw o at e

pub spells : (p : Part) (depth : ℕ) (opened : Bool) (ts rest : List Token) (from taken to : ℕ) (old new : List Value) (k : ℕ) (out : List Lexeme) →
    rest ≡ drop from ts → IsSpelled p depth opened rest taken (stack_out old) → kinds_of old ≡ k ∷ [] → kinds_of old ≡ k ∷ kinds_of new → stack_out old ≡ stack_out new ++ out →
    to ≡ from + taken → SpellsFrom p depth opened ts from to out
spells p depth opened ts rest from taken to old new k out r e one below o t =
    let n : to - from ≡ taken = omega (arith, t) in
    let a : stack_out old ≡ out = alone old new k out one below o in
    record { onward = omega (arith, t); spelled = rw (n, ← r) (subst (λ (y : List Lexeme). IsSpelled p depth opened rest taken y) a e) }

pub heard_at : (ts : List Token) (items : List Item) (i : ℕ) (d : Item) → i < length items → AreHeard ts items → IsHeard ts (get_or items i d)
heard_at ts [] i d l h = absurd (grind arith)
heard_at ts (x ∷ items) zero d l h = h.0
heard_at ts (x ∷ items) (suc i) d l h = heard_at ts items i d (omega (arith, l)) h.1

pub item_first : (items : List Item) (i : ℕ) (d : Item) (k end : List ℕ) → i < length items → kinds signatures (drop i items) k ≡ Some end → kinds signatures (get_or items i d ∷ drop (suc i) items) k ≡ Some end
item_first items i d k end l e = rw (drop-cons items i d l) at e
