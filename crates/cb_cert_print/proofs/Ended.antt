-- Printed tokens with the end of the text behind them.
use Rattle.std.proofs.Common.{◌≡◌, ℕ, zero, suc, ◌+◌, ◌<◌, Bool, true, false, List, [], ◌∷◌, ◌++◌, refl, ap, sym, ◌∙◌, arith, cond, eqb}
use Rattle.std.specs.Prelude.{Option, Some, None, map, slice_get, nat_eq}
use Rattle.std.specs.Cmp.Lexicographic.{pointwise}
use Rattle.cb_lex.specs.declared.token.Token.{Token}
use Rattle.cb_lex.specs.declared.token.Sort.{Sort}
use Rattle.cb_lex.specs.declared.token.Sort.TheVariants as sort
use Rattle.cb_lex.specs.declared.token.Keyword.{Keyword}
use Rattle.cb_lex.specs.declared.token.Keyword.TheVariants as keyword
use Rattle.cb_lex.specs.declared.token.Sign.{Sign}
use Rattle.cb_lex.specs.declared.token.Sign.TheVariants as sign
use Rattle.cb_lex.specs.Lexes.{start}
use Rattle.cb_engine.specs.declared.Terminal.{Terminal}
use Rattle.cb_engine.specs.declared.Item.{Item}
use Rattle.cb_engine.specs.declared.Item.TheVariants as item
use Rattle.cb_grammar.specs.Classes.{keyword_class, sign_class, words}
use Rattle.cb_grammar.specs.Terminals.{class_of, class_in, terminals, opens}
use Rattle.cb_amn_parse.specs.Lexemes.{Lexeme, Lost, heard_at, heard, lexeme, lexemes}
use Rattle.cb_amn_print.specs.Printed.{unplaced}
use Rattle.cb_amn_print.proofs.Scripts.{Piece, Silent, Kept, Done, terms, items, told_of}

-- ---- their classes

abbrev pub with_end : List Piece → List Piece
with_end p = p ++ (Silent sort.Finish ∷ [])

head_same : (t u : Terminal) (ts us : List Terminal) → t ∷ ts ≡ u ∷ us → t ≡ u
head_same t u ts us e = cc

tail_same : (t u : Terminal) (ts us : List Terminal) → t ∷ ts ≡ u ∷ us → ts ≡ us
tail_same t u ts us e = cc

never : (t : Terminal) (ts : List Terminal) → t ∷ ts ≡ [] → ⊥
never t ts e = cc

one_more : (t u : Terminal) (ts us vs ws : List Terminal) → t ∷ ts ≡ u ∷ us → vs ≡ ws → t ∷ vs ≡ u ∷ ws
one_more t u ts us vs ws e f = ap (λ (x : Terminal). x ∷ vs) (head_same t u ts us e) ∙ ap (λ (x : List Terminal). u ∷ x) f

pub ended_classes : (p : List Piece) (i : ℕ) (ts : List Token) (last : Token) → last.sort ≡ sort.Finish → terminals true i ts ≡ terms true i p → terminals true i (ts ++ last ∷ []) ≡ terms true i (with_end p)
ended_classes [] i [] last f e = ap (λ (s : Sort). record { class = class_of true s; index = i } ∷ []) f
ended_classes [] i (t ∷ ts) last f e = absurd (never _ _ e)
ended_classes (Silent s ∷ p) i [] last f e = absurd (never _ _ (sym e))
ended_classes (Silent s ∷ p) i (t ∷ ts) last f e = one_more _ _ _ _ _ _ e (ended_classes p (i + 1) ts last f (tail_same _ _ _ _ e))
ended_classes (Kept s ∷ p) i [] last f e = absurd (never _ _ (sym e))
ended_classes (Kept s ∷ p) i (t ∷ ts) last f e = one_more _ _ _ _ _ _ e (ended_classes p (i + 1) ts last f (tail_same _ _ _ _ e))
ended_classes (Done a ∷ p) i ts last f e = ended_classes p i ts last f e

pub ended_items : (p : List Piece) (i : ℕ) → items true i (with_end p) ≡ items true i p
ended_items [] i = refl
ended_items (Silent s ∷ p) i = ended_items p (i + 1)
ended_items (Kept s ∷ p) i = ap (λ (x : List Item). item.Word (record { class = class_of true s; index = i }) ∷ x) (ended_items p (i + 1))
ended_items (Done a ∷ p) i = ap (λ (x : List Item). item.Do a ∷ x) (ended_items p i)

-- ---- a first PROOF opens

not_among : (c : ℕ) (ws : List (List ℕ)) (text : List ℕ) → 127 < c → class_in c ws text ≡ 31 → ⊥
not_among c [] text l e = cc
not_among c (w ∷ ws) text l e = go (pointwise nat_eq text w) e (not_among (suc c) ws text (omega arith))
  where
    go : (b : Bool) → cond b c (class_in (suc c) ws text) ≡ 31 → (class_in (suc c) ws text ≡ 31 → ⊥) → ⊥
    go true e more = omega (arith, l, e)
    go false e more = more e

keyword_opens : (k : Keyword) → opens false (sort.Keyword k) ≡ eqb (keyword_class k) 31
keyword_opens keyword.Proof = refl
keyword_opens _ = refl

no_sign : (s : Sign) → eqb (sign_class s) 31 ≡ false
no_sign sign.Member = refl
no_sign _ = refl

-- a token of the class of PROOF
proof_opens : (s : Sort) → class_of true s ≡ 31 → (opens false s ≡ true) × (class_of false s ≡ class_of true s)
proof_opens (sort.Word text) e = absurd (not_among 128 words text (omega arith) e)
proof_opens (sort.Opened text n) e = absurd (cc)
proof_opens (sort.Number n) e = absurd (cc)
proof_opens (sort.Keyword k) e = (keyword_opens k ∙ ap (λ (c : ℕ). eqb c 31) e, refl)
proof_opens (sort.Sign s) e = absurd (let h = no_sign s in let i : eqb 31 31 ≡ false = rw e at h in cc)
proof_opens sort.Finish e = absurd (cc)

first_class : (t u : Terminal) (ts us : List Terminal) → t ∷ ts ≡ u ∷ us → t.class ≡ u.class
first_class t u ts us e = ap (λ (x : Terminal). x.class) (head_same t u ts us e)

pub opened_by_proof : (ts : List Token) (i : ℕ) (us : List Terminal) → terminals true i ts ≡ record { class = 31; index = i } ∷ us → terminals false i ts ≡ terminals true i ts
opened_by_proof [] i us e = absurd (never _ _ (sym e))
opened_by_proof (t ∷ ts) i us e =
    let q = proof_opens t.sort (first_class _ _ _ _ e) in
    ap (λ (b : Bool). record { class = class_of false t.sort; index = i } ∷ terminals b (i + 1) ts) q.0 ∙ ap (λ (c : ℕ). record { class = c; index = i } ∷ terminals true (i + 1) ts) q.1

-- and so it is with the end alone
end_class : (s : Sort) → class_of true s ≡ 3 → class_of false s ≡ class_of true s
end_class (sort.Word text) e = refl
end_class (sort.Opened text n) e = absurd (cc)
end_class (sort.Number n) e = refl
end_class (sort.Keyword k) e = refl
end_class (sort.Sign s) e = refl
end_class sort.Finish e = refl

pub opened_at_end : (ts : List Token) (i : ℕ) → terminals true i ts ≡ record { class = 3; index = i } ∷ [] → terminals false i ts ≡ terminals true i ts
opened_at_end [] i e = refl
opened_at_end (t ∷ []) i e = ap (λ (c : ℕ). record { class = c; index = i } ∷ []) (end_class t.sort (first_class _ _ _ _ e))
opened_at_end (t ∷ (u ∷ ts)) i e = absurd (never _ _ (tail_same _ _ _ _ e))
