-- The tokens of a text may be printed, and so may what is written for them.
use Rattle.std.proofs.Common.{◌≡◌, ℕ, zero, suc, ◌≤◌, ◌+◌, Bool, true, false, List, [], ◌∷◌, take, drop, refl, ap, ◌∙◌, arith, subst}
use Rattle.std.specs.Prelude.{Option, Some, None, ◌&&◌, nat_le, if◌then◌else◌, Result, Ok, Err}
use Rattle.std.specs.Char.{is_ascii_digit, is_ascii_alphabetic}
use Rattle.cb_lex.specs.declared.token.Keyword.{Keyword}
use Rattle.cb_lex.specs.declared.token.Sign.{Sign}
use Rattle.cb_lex.specs.declared.token.Place.{Place}
use Rattle.cb_lex.specs.declared.token.Token.{Token}
use Rattle.cb_lex.specs.declared.front.Front.{Front}
use Rattle.cb_lex.specs.declared.front.Front.TheVariants.{Gap, Makes}
use Rattle.cb_lex.specs.declared.lexer.LexFault.{LexFault}
use Rattle.cb_lex.specs.Spelling.{keyword_of, sign_at}
use Rattle.cb_lex.specs.Lexis.{is_blank, is_word, run_length, comment_from, opens as opens_comment, marks_number, may_open, number_of, value_from, plain_front, numbered_front, opened_front, word_front, number_front, digits_front, comment_front, sign_front, other_front, front}
use Rattle.cb_lex.specs.Lexes.{Lexes, before}
use Rattle.cb_lex.specs.Lexes.Lexes.{finish, gap, makes, bad_byte, long_number, open_comment}
use Rattle.cb_amn_print.proofs.Fronts.{IsToken, IsWord, all_in}
use Rattle.cb_amn_print.proofs.Lines.{keyword_read}

-- ---- what the lexer makes

abbrev FrontRead : Front → Type 0
FrontRead (Makes s n) = IsToken s
FrontRead _ = Unit {0}

run_all : (p : ℕ → Bool) (bs : List ℕ) → all_in p (take (run_length p bs) bs) ≡ true
run_all p [] = refl
run_all p (b ∷ bs) = go (p b) refl (run_all p bs)
  where
    go : (t : Bool) → p b ≡ t → all_in p (take (run_length p bs) bs) ≡ true → all_in p (take (if t then 1 + run_length p bs else 0) (b ∷ bs)) ≡ true
    go true e h = let q : 1 + run_length p bs ≡ suc (run_length p bs) = omega arith in rw (q, e) h
    go false e h = refl

word_is : (b : ℕ) (bs : List ℕ) → is_ascii_alphabetic b ≡ true → IsWord (take (run_length is_word (b ∷ bs)) (b ∷ bs))
word_is b bs e =
    let w : is_word b ≡ true = grind arith in
    let q : run_length is_word (b ∷ bs) ≡ suc (run_length is_word bs) = rw w (omega arith) in
    record { first = rw q e; all = run_all is_word (b ∷ bs) }

within_limit : (limit v : ℕ) (ds : List ℕ) → number_of limit ds ≡ Some v → v ≤ limit
unfolding number_of
within_limit limit v ds e = go (nat_le (value_from 0 ds) limit) refl e
  where
    go : (t : Bool) → nat_le (value_from 0 ds) limit ≡ t → (if t then Some (value_from 0 ds) else None) ≡ Some v → v ≤ limit
    go true h e = let q : value_from 0 ds ≡ v = cc in let l : value_from 0 ds ≤ limit = grind arith in omega (arith, q, l)
    go false h e = absurd (cc)

plain_read : (word : List ℕ) (k : Option Keyword) → IsWord word → keyword_of word ≡ k → FrontRead (plain_front k word)
plain_read word None w e = (w, e)
plain_read word (Some k) w e = keyword_read k

numbered_read : (word : List ℕ) (k : Option Keyword) (m : ℕ) (number : Option ℕ) → IsWord word → keyword_of word ≡ k → may_open k ≡ true → ((v : ℕ) → number ≡ Some v → v ≤ 4294967295) → FrontRead (numbered_front k word m number)
numbered_read word None m None w e o l = tt
numbered_read word (Some k) m None w e o l = tt
numbered_read word None m (Some zero) w e o l = (w, e)
numbered_read word (Some k) m (Some zero) w e o l = keyword_read k
numbered_read word None m (Some (suc v)) w e o l = (w, (ap may_open e ∙ o, (omega arith, l (suc v) refl)))
numbered_read word (Some k) m (Some (suc v)) w e o l = (w, (ap may_open e ∙ o, (omega arith, l (suc v) refl)))

word_read : (word bs : List ℕ) → IsWord word → FrontRead (word_front word bs)
word_read word bs w = go (may_open (keyword_of word)) (marks_number bs) refl
  where
    go : (t u : Bool) → may_open (keyword_of word) ≡ t → FrontRead (if t && u then opened_front (keyword_of word) word (drop 1 bs) else plain_front (keyword_of word) word)
    go true true e = numbered_read word (keyword_of word) (1 + run_length is_ascii_digit (drop 1 bs)) (number_of 4294967295 (take (run_length is_ascii_digit (drop 1 bs)) (drop 1 bs))) w refl e (λ v s. within_limit 4294967295 v (take (run_length is_ascii_digit (drop 1 bs)) (drop 1 bs)) s)
    go true false e = plain_read word (keyword_of word) w refl
    go false u e = plain_read word (keyword_of word) w refl

number_read : (n : ℕ) (number : Option ℕ) → ((v : ℕ) → number ≡ Some v → v ≤ 9223372036854775807) → FrontRead (number_front n number)
number_read n None l = tt
number_read n (Some v) l = (v, (refl, l v refl))

other_read : (bs : List ℕ) → FrontRead (other_front bs)
other_read bs = go (opens_comment bs) (comment_from 0 (drop 2 bs)) (sign_at bs)
  where
    go : (t : Bool) (n : Option ℕ) (s : Option Sign) → FrontRead (if t then comment_front n else sign_front s)
    go true None s = tt
    go true (Some n) s = tt
    go false n None = tt
    go false n (Some s) = tt

front_read : (bs : List ℕ) → FrontRead (front bs)
front_read [] = tt
front_read (b ∷ bs) = go (is_blank b) (is_ascii_alphabetic b) (is_ascii_digit b) refl
  where
    go : (t u v : Bool) → is_ascii_alphabetic b ≡ u → FrontRead (if t then Gap 1 else (if u then word_front (take (run_length is_word (b ∷ bs)) (b ∷ bs)) (drop (run_length is_word (b ∷ bs)) (b ∷ bs)) else (if v then digits_front (b ∷ bs) else other_front (b ∷ bs))))
    go true u v e = tt
    go false true v e = word_read (take (run_length is_word (b ∷ bs)) (b ∷ bs)) (drop (run_length is_word (b ∷ bs)) (b ∷ bs)) (word_is b bs e)
    go false false true e = number_read (run_length is_ascii_digit (b ∷ bs)) (number_of 9223372036854775807 (take (run_length is_ascii_digit (b ∷ bs)) (b ∷ bs))) (λ v s. within_limit 9223372036854775807 v (take (run_length is_ascii_digit (b ∷ bs)) (b ∷ bs)) s)
    go false false false e = other_read (b ∷ bs)

abbrev pub AllTokens : List Token → Type 0
AllTokens [] = Unit {0}
AllTokens (t ∷ ts) = IsToken t.sort × AllTokens ts

abbrev ResultRead : Result (List Token) LexFault → Type 0
ResultRead (Ok ts) = AllTokens ts
ResultRead (Err f) = Unit {0}

before_read : (t : Token) (r : Result (List Token) LexFault) → IsToken t.sort → ResultRead r → ResultRead (before t r)
before_read t (Ok ts) a b = (a, b)
before_read t (Err f) a b = tt

pub lexed_read : {bs : List ℕ} {p : Place} {r : Result (List Token) LexFault} → Lexes bs p r → ResultRead r
lexed_read (finish e) = (tt, tt)
lexed_read (gap n e m) = lexed_read m
lexed_read {bs = bs} (makes {r = r} s n e m) = let q : FrontRead (Makes s n) = subst FrontRead e (front_read bs) in before_read (record { sort = s; place = _ }) r q (lexed_read m)
lexed_read (bad_byte e) = tt
lexed_read (long_number n e) = tt
lexed_read (open_comment e) = tt

pub dropped_read : (n : ℕ) (ts : List Token) → AllTokens ts → AllTokens (drop n ts)
dropped_read zero ts a = a
dropped_read (suc n) [] a = tt
dropped_read (suc n) (t ∷ ts) a = dropped_read n ts a.1
