-- Whatever text is read of what is printed is the one that was printed, places aside.
use Rattle.std.proofs.Common.{◌≡◌, ℕ, zero, suc, false, List, [], ◌∷◌, ◌++◌, take, drop, refl, sym, ap, ◌∙◌, subst}
use Rattle.std.specs.Prelude.{map, Ok, Result, ◌-◌}
use Rattle.cb_lex.specs.declared.token.Token.{Token}
use Rattle.cb_lex.specs.declared.lexer.LexFault.{LexFault}
use Rattle.cb_lex.specs.declared.raw.text.RawText.{RawText}
use Rattle.cb_lex.specs.Lexes.{Lexes, start}
use Rattle.cb_lex.specs.Laws.{LexesOnce}
use Rattle.cb_engine.specs.declared.Symbol.{Symbol}
use Rattle.cb_engine.specs.declared.Terminal.{Terminal}
use Rattle.cb_engine.specs.declared.Item.{Item}
use Rattle.cb_engine.specs.Rules.{Rules, Spells}
use Rattle.cb_engine.specs.Readings.{IsWhole}
use Rattle.cb_engine.specs.Fronts.{begins_front}
use Rattle.cb_grammar.specs.declared.parts.Part.TheVariants as part
use Rattle.cb_grammar.specs.Misreadings.{language, symbols_of}
use Rattle.cb_grammar.specs.Terminals.{terminals}
use Rattle.cb_amn_parse.specs.Lexemes.{Lexeme, lexemes}
use Rattle.cb_amn_parse.specs.Processes.{text_out}
use Rattle.cb_amn_parse.specs.Spelling.{IsSpelled, SpellsFrom}
use Rattle.cb_csp_parse.specs.Laws.{StandsAlone}
use Rattle.cb_csp_parse.proofs.Chains.{no_short}
use Rattle.cb_csp_parse.proofs.TextsAgain.{Two, Text, walk, walk_text, controller_shorts}
use Rattle.cb_amn_print.specs.Printed.{unplaced}
use Rattle.cb_text_print.specs.Texts.{text_text}
use Rattle.cb_text_print.specs.Unplaced.{unplaced_text}
use Rattle.cb_text_print.specs.Printed.{SpellsWhole, SpellsText, TextIsPrintedBack, TextIsReadAgain}
use Rattle.cb_text_print.proofs.Aside.{text_aside, controllers_stay, alone_stays}

-- ---- all is read

-- where a run of tokens ends: within them, or with all of them
data Ends (ts : List Terminal) (n : ℕ) : Type 0 where
  within : (next : Terminal) (more us : List Terminal) → drop n ts ≡ next ∷ more → ts ≡ (take n ts ++ next ∷ []) ++ us → Ends ts n
  whole : take n ts ≡ ts → Ends ts n

ends : (ts : List Terminal) (n : ℕ) → Ends ts n
ends [] zero = whole refl
ends [] (suc n) = whole refl
ends (x ∷ ts) zero = within x ts ts refl refl
ends (x ∷ ts) (suc n) = go (ends ts n)
  where
    go : Ends ts n → Ends (x ∷ ts) (suc n)
    go (within next more us d e) = within next more us d (ap (λ (y : List Terminal). x ∷ y) e)
    go (whole e) = whole (ap (λ (y : List Terminal). x ∷ y) e)

same_items : (r : Rules) (k : List Symbol) (ts : List Terminal) (n : ℕ) (out items : List Item) → Spells r k ts out → IsWhole r k ts n items → out ≡ items
same_items r k ts n out items m w = go (ends ts n)
  where
    go : Ends ts n → out ≡ items
    go (within next more us d e) = absurd (w.longest next more d (begins_front m (take n ts ++ next ∷ []) us e))
    go (whole e) = w.only out (subst (λ (x : List Terminal). Spells r k x out) (sym e) m)

ok_same : (a b : List Token) (r q : Result (List Token) LexFault) → r ≡ Ok a → q ≡ Ok b → r ≡ q → a ≡ b
ok_same a b r q e f g = cc

-- what is written for whatever is read of the printed bytes
told_again : LexesOnce → (bytes : List ℕ) (out again : List Lexeme) → SpellsWhole bytes out → (ts : List Token) (to : ℕ) → Lexes bytes start (Ok ts) → SpellsFrom part.Text 0 false ts 0 to again → map unplaced again ≡ map unplaced out
told_again once bytes out again back ts to cut spelled =
    let same : ts ≡ back.tokens = ok_same ts back.tokens (Ok ts) (Ok back.tokens) refl refl (once bytes start (Ok ts) (Ok back.tokens) cut back.cut) in
    let s : IsSpelled part.Text 0 false back.tokens (to - 0) again = subst (λ (x : List Token). IsSpelled part.Text 0 false x (to - 0) again) same spelled.spelled in
    let e : back.items ≡ s.items = same_items language (symbols_of part.Text) (terminals false 0 back.tokens) (to - 0) back.items s.items back.spelled s.read.whole in
    ap (λ (x : List Lexeme). map unplaced x) (sym s.told) ∙ (ap (λ (x : List Item). map unplaced (lexemes back.tokens x)) (sym e) ∙ back.told)

-- ---- one text for what is written

no_shorts : (ts : List Token) (from to : ℕ) (t : RawText) → SpellsText ts from to t → controller_shorts (unplaced_text t).controllers ≡ 0
no_shorts ts from to t s = let q = s.spelled in controllers_stay t.controllers ∙ no_short (drop from ts) (to - from) t s.alone q.spelled

same_text : (x y : RawText) → StandsAlone x → StandsAlone y → controller_shorts x.controllers ≡ 0 → controller_shorts y.controllers ≡ 0 → text_out x ≡ text_out y → x ≡ y
same_text x y a b c d e =
    let s : Two [] (Text x ∷ []) ≡ Two [] (Text y ∷ []) = sym (walk_text x a c) ∙ (ap (λ (ls : List Lexeme). walk ls (Two [] [])) e ∙ walk_text y b d) in
    cc

pub read_again : LexesOnce → TextIsPrintedBack → TextIsReadAgain
read_again once printed bytes all from to t lexed s =
    let back = printed bytes all from to t lexed s in (
      back,
      λ ts end u cut v. same_text (unplaced_text u) (unplaced_text t) (alone_stays u v.alone) (alone_stays t s.alone) (no_shorts ts 0 end u v) (no_shorts all from to t s)
          (sym (text_aside u).is ∙ (told_again once (text_text t) (text_out t) (text_out u) back ts end cut v.spelled ∙ (text_aside t).is)),
    )
