use Rattle.std.proofs.Common.{◌≡◌, ℕ, List, [], ◌∷◌, refl, ap, sym, ◌∙◌, take, drop}
use Rattle.std.specs.Prelude.{Result, Ok, Err}
use Rattle.cb_lex.specs.declared.token.Place.{Place}
use Rattle.cb_lex.specs.declared.token.Sort.TheVariants as sort
use Rattle.cb_lex.specs.declared.token.Token.{Token}
use Rattle.cb_lex.specs.declared.lexer.LexFault.{LexFault}
use Rattle.cb_lex.specs.declared.lexer.LexFault.TheVariants.{BadByte, LongNumber, OpenComment}
use Rattle.cb_lex.specs.declared.front.Front.{Front}
use Rattle.cb_lex.specs.declared.front.Front.TheVariants.{Nothing, Gap, Makes, Bad, Long, Open}
use Rattle.cb_lex.specs.Lexis.{front}
use Rattle.cb_lex.specs.Lexes.{Lexes, before, moved}
use Rattle.cb_lex.specs.Lexes.Lexes.{finish, gap, makes, bad_byte, long_number, open_comment}

-- what is cut, by what stands at the front
abbrev Next : List ℕ → Place → Result (List Token) LexFault → Front → Type 0
Next bs p r Nothing = r ≡ Ok (record { sort = sort.Finish; place = p } ∷ [])
Next bs p r (Gap n) = Lexes (drop n bs) (moved p (take n bs)) r
Next bs p r (Makes s n) = (more : Result (List Token) LexFault) × (Lexes (drop n bs) (moved p (take n bs)) more × (r ≡ before (record { sort = s; place = p }) more))
Next bs p r Bad = r ≡ Err (BadByte p)
Next bs p r (Long n) = r ≡ Err (LongNumber (moved p (take n bs)))
Next bs p r Open = r ≡ Err (OpenComment p)

next : {bs : List ℕ} {p : Place} {r : Result (List Token) LexFault} → Lexes bs p r → Next bs p r (front bs)
next (finish e) = rw e refl
next (gap n e l) = rw e l
next (makes {r = r} s n e l) = rw e (r, (l, refl))
next (bad_byte e) = rw e refl
next (long_number n e) = rw e refl
next (open_comment e) = rw e refl

lexes_first : {bs : List ℕ} {p : Place} {r : Result (List Token) LexFault} → Lexes bs p r → (q : Result (List Token) LexFault) → Lexes bs p q → r ≡ q
lexes_first (finish e) q m = sym (rw e at (next m))
lexes_first (gap n e l) q m = lexes_first l q (rw e at (next m))
lexes_first (makes {p = p} s n e l) q m = let o = rw e at (next m) in ap (before (record { sort = s; place = p })) (lexes_first l o.0 o.1.0) ∙ sym o.1.1
lexes_first (bad_byte e) q m = sym (rw e at (next m))
lexes_first (long_number n e) q m = sym (rw e at (next m))
lexes_first (open_comment e) q m = sym (rw e at (next m))

pub lexes_same : (bs : List ℕ) (p : Place) (r q : Result (List Token) LexFault) → Lexes bs p r → Lexes bs p q → r ≡ q
lexes_same bs p r q l m = lexes_first l q m
