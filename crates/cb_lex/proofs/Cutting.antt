use Rattle.std.proofs.Common.{◌≡◌, ◌≤◌, ◌+◌, ℕ, drop, take, length, List, [], ◌∷◌, ◌++◌, refl, sym, append_assoc, arith}
use Rattle.std.proofs.lemmas.List.{drop-drop, length-drop}
use Rattle.std.specs.Prelude.{Result, Ok, Err}
use Rattle.cb_lex.specs.declared.token.Place.{Place}
use Rattle.cb_lex.specs.declared.token.Sort.TheVariants as sort
use Rattle.cb_lex.specs.declared.token.Token.{Token}
use Rattle.cb_lex.specs.declared.lexer.LexFault.{LexFault}
use Rattle.cb_lex.specs.declared.lexer.LexFault.TheVariants.{BadByte, LongNumber, OpenComment}
use Rattle.cb_lex.specs.declared.front.Front.{Front}
use Rattle.cb_lex.specs.declared.front.Front.TheVariants.{Nothing, Gap, Makes, Bad, Long, Open}
use Rattle.cb_lex.specs.Lexis.{front, front_length}
use Rattle.cb_lex.specs.Lexes.{Lexes, before, moved, start}
use Rattle.cb_lex.specs.Lexes.Lexes.{finish, gap, makes, bad_byte, long_number, open_comment}

abbrev pub after : List Token → Result (List Token) LexFault → Result (List Token) LexFault
after out (Ok ts) = Ok (out ++ ts)
after out (Err f) = Err f

after_before : (out : List Token) (t : Token) (r : Result (List Token) LexFault) → after (out ++ t ∷ []) r ≡ after out (before t r)
after_before out t (Ok ts) = rw append_assoc refl
after_before out t (Err f) = refl

-- what is cut off so far
pub record Lexed (bytes : List ℕ) (at : ℕ) (place : Place) (out : List Token) : Type 0 where
  pub within : at ≤ length bytes
  pub line : place.line ≤ at + 1
  pub col : place.col ≤ at + 1
  pub so_far : (r : Result (List Token) LexFault) → Lexes (drop at bytes) place r → Lexes bytes start (after out r)

-- one turn of the loop, by what stands at the front; then is the place after it
abbrev pub Cut : List ℕ → ℕ → Place → List Token → Place → Front → Type 0
Cut bytes at place out then Nothing = Lexes bytes start (Ok (out ++ record { sort = sort.Finish; place = place } ∷ []))
Cut bytes at place out then (Gap n) = (then ≡ moved place (take n (drop at bytes))) → (then.line ≤ at + n + 1) → (then.col ≤ at + n + 1) → Lexed bytes (at + n) then out
Cut bytes at place out then (Makes s n) = (then ≡ moved place (take n (drop at bytes))) → (then.line ≤ at + n + 1) → (then.col ≤ at + n + 1) → Lexed bytes (at + n) then (out ++ record { sort = s; place = place } ∷ [])
Cut bytes at place out then Bad = Lexes bytes start (Err (BadByte place))
Cut bytes at place out then (Long n) = (then ≡ moved place (take n (drop at bytes))) → Lexes bytes start (Err (LongNumber then))
Cut bytes at place out then Open = Lexes bytes start (Err (OpenComment place))

pub cut : (bytes : List ℕ) (at : ℕ) (place : Place) (out : List Token) (then : Place) (f : Front) → Lexed bytes at place out → f ≡ front (drop at bytes) → front_length f ≤ length (drop at bytes) → Cut bytes at place out then f
cut bytes at place out then Nothing q e w = q.so_far _ (finish (sym e))
cut bytes at place out then (Gap n) q e w = λ p l k. record {
  within = omega (arith, w, q.within, length-drop at bytes);
  line = l;
  col = k;
  so_far = λ r m. q.so_far r (gap n (sym e) (rw (drop-drop, ← p) m));
}
cut bytes at place out then (Makes s n) q e w = λ p l k. record {
  within = omega (arith, w, q.within, length-drop at bytes);
  line = l;
  col = k;
  so_far = λ r m. rw after_before (q.so_far _ (makes s n (sym e) (rw (drop-drop, ← p) m)));
}
cut bytes at place out then Bad q e w = q.so_far _ (bad_byte (sym e))
cut bytes at place out then (Long n) q e w = λ p. rw p (q.so_far _ (long_number n (sym e)))
cut bytes at place out then Open q e w = q.so_far _ (open_comment (sym e))
