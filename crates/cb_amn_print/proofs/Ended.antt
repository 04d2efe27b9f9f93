-- What is heard of printed tokens is heard of them with others behind them too.
use Rattle.std.proofs.Common.{◌≡◌, ℕ, zero, suc, ◌+◌, Bool, List, [], ◌∷◌, ◌++◌, refl, ap, ◌∙◌}
use Rattle.std.specs.Prelude.{Option, Some, None, map, slice_get}
use Rattle.cb_lex.specs.declared.token.Token.{Token}
use Rattle.cb_lex.specs.declared.token.Sort.{Sort}
use Rattle.cb_lex.specs.declared.token.Sort.TheVariants as sort
use Rattle.cb_lex.specs.Lexes.{start}
use Rattle.cb_engine.specs.declared.Item.TheVariants as item
use Rattle.cb_amn_parse.specs.Lexemes.{Lexeme, Lost, heard_at, heard, lexeme, lexemes}
use Rattle.cb_amn_print.specs.Printed.{unplaced}
use Rattle.cb_amn_print.proofs.Scripts.{Piece, Silent, Kept, Done, items, told_of}

still_there : (ts us : List Token) (i : ℕ) (t : Token) → slice_get ts i ≡ Some t → slice_get (ts ++ us) i ≡ Some t
still_there [] us i t e = absurd (cc)
still_there (x ∷ ts) us zero t e = e
still_there (x ∷ ts) us (suc i) t e = still_there ts us i t e

not_lost : (s : Sort) → Lost ≡ unplaced (heard_at s start) → ⊥
not_lost (sort.Word text) e = cc
not_lost (sort.Opened text n) e = cc
not_lost (sort.Number n) e = cc
not_lost (sort.Keyword k) e = cc
not_lost (sort.Sign s) e = cc
not_lost sort.Finish e = cc

heard_still : (ts us : List Token) (i : ℕ) (s : Sort) → unplaced (heard (slice_get ts i)) ≡ unplaced (heard_at s start) → unplaced (heard (slice_get (ts ++ us) i)) ≡ unplaced (heard_at s start)
heard_still ts us i s e = go (slice_get ts i) refl e
  where
    go : (o : Option Token) → slice_get ts i ≡ o → unplaced (heard o) ≡ unplaced (heard_at s start) → unplaced (heard (slice_get (ts ++ us) i)) ≡ unplaced (heard_at s start)
    go None f h = absurd (not_lost s h)
    go (Some t) f h = ap (λ (x : Option Token). unplaced (heard x)) (still_there ts us i t f) ∙ h

first_told : (l m : Lexeme) (ls ms : List Lexeme) → l ∷ ls ≡ m ∷ ms → l ≡ m
first_told l m ls ms e = cc

rest_told : (l m : Lexeme) (ls ms : List Lexeme) → l ∷ ls ≡ m ∷ ms → ls ≡ ms
rest_told l m ls ms e = cc

pub ended_told : (opened : Bool) (p : List Piece) (i : ℕ) (ts us : List Token) → map unplaced (lexemes ts (items opened i p)) ≡ told_of p → map unplaced (lexemes (ts ++ us) (items opened i p)) ≡ told_of p
ended_told opened [] i ts us e = refl
ended_told opened (Silent s ∷ p) i ts us e = ended_told opened p (i + 1) ts us e
ended_told opened (Kept s ∷ p) i ts us e =
    ap (λ (l : Lexeme). l ∷ map unplaced (lexemes (ts ++ us) (items opened (i + 1) p))) (heard_still ts us i s (first_told _ _ _ _ e)) ∙ ap (λ (l : List Lexeme). unplaced (heard_at s start) ∷ l) (ended_told opened p (i + 1) ts us (rest_told _ _ _ _ e))
ended_told opened (Done a ∷ p) i ts us e = ap (λ (l : List Lexeme). unplaced (lexeme (ts ++ us) (item.Do a)) ∷ l) (ended_told opened p i ts us (rest_told _ _ _ _ e))
