-- Whatever is read of what is printed is the value that was printed, places aside.
use Rattle.std.proofs.Common.{◌≡◌, ℕ, zero, suc, ◌+◌, Bool, true, false, List, [], ◌∷◌, ◌++◌, take, drop, refl, sym, ap, ◌∙◌, subst, arith, ◌⊎◌, inl, inr}
use Rattle.std.specs.Prelude.{map, Ok, Result, ◌-◌}
use Rattle.cb_lex.specs.declared.token.Token.{Token}
use Rattle.cb_lex.specs.declared.token.Sort.{Sort}
use Rattle.cb_lex.specs.declared.token.Sort.TheVariants as sort
use Rattle.cb_lex.specs.declared.lexer.LexFault.{LexFault}
use Rattle.cb_lex.specs.Lexes.{Lexes, start}
use Rattle.cb_lex.specs.Laws.{LexesOnce}
use Rattle.cb_engine.specs.declared.Symbol.{Symbol}
use Rattle.cb_engine.specs.declared.Terminal.{Terminal}
use Rattle.cb_engine.specs.declared.Item.{Item}
use Rattle.cb_engine.specs.Rules.{Rules, Spells, Begins}
use Rattle.cb_engine.specs.Readings.{IsWhole}
use Rattle.cb_engine.specs.Fronts.{begins_front}
use Rattle.cb_grammar.specs.declared.parts.Part.{Part}
use Rattle.cb_grammar.specs.Parts.{number_of}
use Rattle.cb_grammar.specs.Misreadings.{language, symbols_of}
use Rattle.cb_grammar.specs.Terminals.{class_of, opens, terminals}
use Rattle.cb_amn_parse.specs.Lexemes.{Lexeme, lexemes}
use Rattle.cb_amn_parse.specs.Spelling.{IsSpelled, SpellsFrom}
use Rattle.cb_amn_print.specs.Printed.{unplaced, SpellsBack, IsPrintedBack, IsReadAgain}
use Rattle.cb_amn_print.proofs.OutAside.{Aside}
use Rattle.cb_amn_print.proofs.Heard.{is_without, no_end}

-- ---- how much is read

-- where a run of tokens ends: before the last of them, at the last, or behind it
data Ends (ts : List Terminal) (t : Terminal) (n : ℕ) : Type 0 where
  within : (next : Terminal) (more us : List Terminal) → drop n (ts ++ t ∷ []) ≡ next ∷ more → ts ≡ (take n (ts ++ t ∷ []) ++ next ∷ []) ++ us → Ends ts t n
  before_last : take n (ts ++ t ∷ []) ≡ ts → Ends ts t n
  behind_last : take n (ts ++ t ∷ []) ≡ ts ++ t ∷ [] → Ends ts t n

abbrev no_tokens : List Terminal
no_tokens = []

take_none : (n : ℕ) → take n no_tokens ≡ no_tokens
take_none zero = refl
take_none (suc n) = refl

ends : (ts : List Terminal) (t : Terminal) (n : ℕ) → Ends ts t n
ends [] t zero = before_last refl
ends [] t (suc n) = behind_last (ap (λ (x : List Terminal). t ∷ x) (take_none n))
ends (x ∷ ts) t zero = within x (ts ++ t ∷ []) ts refl refl
ends (x ∷ ts) t (suc n) = go (ends ts t n)
  where
    go : Ends ts t n → Ends (x ∷ ts) t (suc n)
    go (within next more us d e) = within next more us d (ap (λ (y : List Terminal). x ∷ y) e)
    go (before_last e) = before_last (ap (λ (y : List Terminal). x ∷ y) e)
    go (behind_last e) = behind_last (ap (λ (y : List Terminal). x ∷ y) e)

-- All that may be read is read, where the part never takes the last token. So what is written is the same.
same_items : (r : Rules) (k : List Symbol) (ts : List Terminal) (t : Terminal) (n : ℕ) (out items : List Item) → Spells r k ts out → ((o : List Item) → Spells r k (ts ++ t ∷ []) o → ⊥) → IsWhole r k (ts ++ t ∷ []) n items → out ≡ items
same_items r k ts t n out items m never w = go (ends ts t n)
  where
    go : Ends ts t n → out ≡ items
    go (within next more us d e) = absurd (w.longest next more d (begins_front m (take n (ts ++ t ∷ []) ++ next ∷ []) us e))
    go (before_last e) = w.only out (subst (λ (x : List Terminal). Spells r k x out) (sym e) m)
    go (behind_last e) = absurd (never items (subst (λ (x : List Terminal). Spells r k x items) e w.spelled))

-- the token at the end of a text has a class of its own
end_class : (opened : Bool) (s : Sort) → s ≡ sort.Finish → class_of opened s ≡ 3
end_class true s e = rw e refl
end_class false s e = rw e refl

classes_to_end : (opened : Bool) (i : ℕ) (ts : List Token) (last : Token) → last.sort ≡ sort.Finish → (t : Terminal) × (t.class ≡ 3) × (terminals opened i (ts ++ last ∷ []) ≡ terminals opened i ts ++ t ∷ [])
classes_to_end opened i [] last e = (record { class = class_of opened last.sort; index = i }, end_class opened last.sort e, refl)
classes_to_end opened i (x ∷ ts) last e =
    let q = classes_to_end (opens opened x.sort) (i + 1) ts last e in
    (q.0, q.1, ap (λ (l : List Terminal). record { class = class_of opened x.sort; index = i } ∷ l) q.2)

-- ---- from what is written to values

ok_same : (a b : List Token) (r q : Result (List Token) LexFault) → r ≡ Ok a → q ≡ Ok b → r ≡ q → a ≡ b
ok_same a b r q e f g = cc

-- what is written for whatever is read of the printed bytes
pub told_again : LexesOnce → (p : Part) (opened : Bool) (bytes : List ℕ) (out again : List Lexeme) → is_without (number_of p) ≡ true → SpellsBack p opened bytes out →
    (ts : List Token) (depth to : ℕ) → Lexes bytes start (Ok ts) → SpellsFrom p depth opened ts 0 to again → map unplaced again ≡ map unplaced out
told_again once p opened bytes out again w back ts depth to cut spelled =
    let same : ts ≡ back.tokens ++ back.last ∷ [] = ok_same ts (back.tokens ++ back.last ∷ []) (Ok ts) (Ok (back.tokens ++ back.last ∷ [])) refl refl (once bytes start (Ok ts) (Ok (back.tokens ++ back.last ∷ [])) cut back.cut) in
    let s : IsSpelled p depth opened (back.tokens ++ back.last ∷ []) (to - 0) again = subst (λ (x : List Token). IsSpelled p depth opened x (to - 0) again) same spelled.spelled in
    let q = classes_to_end opened 0 back.tokens back.last back.ends in
    let v : IsWhole language (symbols_of p) (terminals opened 0 back.tokens ++ q.0 ∷ []) (to - 0) s.items = subst (λ (x : List Terminal). IsWhole language (symbols_of p) x (to - 0) s.items) q.2 s.read.whole in
    let e : back.items ≡ s.items = same_items language (symbols_of p) (terminals opened 0 back.tokens) q.0 (to - 0) back.items s.items back.spelled (λ o m. no_end p (terminals opened 0 back.tokens) q.0 o w q.1 m) v in
    ap (λ (x : List Lexeme). map unplaced x) (sym s.told) ∙ ap (λ (x : List Item). map unplaced (lexemes (back.tokens ++ back.last ∷ []) x)) (sym e) ∙ back.told

pub read_again : {X : Type 0} (p : Part) (text : X → List ℕ) (out : X → List Lexeme) (aside : X → X) → LexesOnce → is_without (number_of p) ≡ true → IsPrintedBack text out p →
    ((x : X) → Aside (out x) (out (aside x))) → ((x y : X) → out x ≡ out y → x ≡ y) → IsReadAgain text out aside p
read_again p text out aside once w printed told injective bytes all depth opened from to x lexed spelled =
    let back = printed bytes all depth opened from to x lexed spelled in
    (back, λ ts deep end y cut s. injective (aside y) (aside x) (sym (told y).is ∙ (told_again once p opened (text x) (out x) (out y) w back ts deep end cut s ∙ (told x).is)))
