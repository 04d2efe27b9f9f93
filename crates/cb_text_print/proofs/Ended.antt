-- Printed tokens with the end of the text behind them.
use Rattle.std.proofs.Common.{◌≡◌, ℕ, ◌+◌, Bool, false, List, [], ◌∷◌, ◌++◌, refl, ap, sym, ◌∙◌}
use Rattle.cb_lex.specs.declared.token.Token.{Token}
use Rattle.cb_lex.specs.declared.token.Sort.{Sort}
use Rattle.cb_lex.specs.declared.token.Sort.TheVariants as sort
use Rattle.cb_engine.specs.declared.Terminal.{Terminal}
use Rattle.cb_engine.specs.declared.Item.{Item}
use Rattle.cb_engine.specs.declared.Item.TheVariants as item
use Rattle.cb_grammar.specs.Terminals.{class_of, terminals, opens}
use Rattle.cb_amn_print.proofs.Scripts.{Piece, Silent, Kept, Done, terms, items}

abbrev pub with_end : List Piece → List Piece
with_end p = p ++ (Silent sort.Finish ∷ [])

head_same : (t u : Terminal) (ts us : List Terminal) → t ∷ ts ≡ u ∷ us → t ≡ u
head_same t u ts us e = cc

tail_same : (t u : Terminal) (ts us : List Terminal) → t ∷ ts ≡ u ∷ us → ts ≡ us
tail_same t u ts us e = cc

never : (t : Terminal) (ts : List Terminal) → t ∷ ts ≡ [] → ⊥
never t ts e = cc

one_more : (t u : Terminal) (ts us vs ws : List Terminal) → t ∷ ts ≡ u ∷ us → vs ≡ ws → t ∷ vs ≡ u ∷ ws
one_more t u ts us vs ws e f = ap (λ (x : Terminal). x ∷ vs) (head_same t u ts us e) ∙ ap (λ (x : List Terminal). u ∷ x) f

-- whether opened names may stand at the first token or not
pub ended_classes : (p : List Piece) (i : ℕ) (opened : Bool) (ts : List Token) (last : Token) → last.sort ≡ sort.Finish → terminals opened i ts ≡ terms false i p → terminals opened i (ts ++ last ∷ []) ≡ terms false i (with_end p)
ended_classes [] i opened [] last f e = ap (λ (s : Sort). record { class = class_of opened s; index = i } ∷ []) f
ended_classes [] i opened (t ∷ ts) last f e = absurd (never _ _ e)
ended_classes (Silent s ∷ p) i opened [] last f e = absurd (never _ _ (sym e))
ended_classes (Silent s ∷ p) i opened (t ∷ ts) last f e = one_more _ _ _ _ _ _ e (ended_classes p (i + 1) (opens opened t.sort) ts last f (tail_same _ _ _ _ e))
ended_classes (Kept s ∷ p) i opened [] last f e = absurd (never _ _ (sym e))
ended_classes (Kept s ∷ p) i opened (t ∷ ts) last f e = one_more _ _ _ _ _ _ e (ended_classes p (i + 1) (opens opened t.sort) ts last f (tail_same _ _ _ _ e))
ended_classes (Done a ∷ p) i opened ts last f e = ended_classes p i opened ts last f e

pub ended_items : (p : List Piece) (i : ℕ) → items false i (with_end p) ≡ items false i p
ended_items [] i = refl
ended_items (Silent s ∷ p) i = ended_items p (i + 1)
ended_items (Kept s ∷ p) i = ap (λ (x : List Item). item.Word (record { class = class_of false s; index = i }) ∷ x) (ended_items p (i + 1))
ended_items (Done a ∷ p) i = ap (λ (x : List Item). item.Do a ∷ x) (ended_items p i)
