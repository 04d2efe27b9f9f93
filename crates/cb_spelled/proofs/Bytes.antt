-- Each token but the last takes a byte at least.
use Rattle.std.proofs.Common.{◌≡◌, ℕ, zero, suc, ◌+◌, ◌<◌, ◌≤◌, Bool, true, false, List, [], ◌∷◌, length, take, drop, refl, arith}
use Rattle.std.proofs.lemmas.List.{length-drop, length-take}
use Rattle.std.specs.Prelude.{Option, Some, None, Result, Ok, Err, ◌&&◌, if◌then◌else◌}
use Rattle.std.specs.Char.{is_ascii_digit, is_ascii_alphabetic}
use Rattle.cb_lex.specs.declared.token.Place.{Place}
use Rattle.cb_lex.specs.declared.token.Token.{Token}
use Rattle.cb_lex.specs.declared.token.Sort.{Sort}
use Rattle.cb_lex.specs.declared.token.Keyword.{Keyword}
use Rattle.cb_lex.specs.declared.token.Sign.{Sign}
use Rattle.cb_lex.specs.declared.token.Sign.TheVariants as sign
use Rattle.cb_lex.specs.declared.front.Front.{Front}
use Rattle.cb_lex.specs.declared.front.Front.TheVariants.{Makes}
use Rattle.cb_lex.specs.declared.lexer.LexFault.{LexFault}
use Rattle.cb_lex.specs.Spelling.{marks, keyword_of, sign_at}
use Rattle.cb_lex.specs.Lexis.{is_blank, is_word, run_length, opens, comment_from, marks_number, may_open, plain_front, numbered_front, opened_front, word_front, number_front, comment_front, sign_front, front, GoesForward}
use Rattle.cb_lex.specs.Lexes.{Lexes, before}
use Rattle.cb_lex.specs.Lexes.Lexes.{finish, gap, makes, bad_byte, long_number, open_comment}
use Rattle.cb_lex.proofs.Numerals.{letter_run, digit_run}
use Rattle.cb_spelled.specs.Laws.{TokensAreBytes}

-- ---- what stands at the front takes a byte

choice_forward : (t : Bool) (f g : Front) → (t ≡ true → GoesForward f) → GoesForward g → GoesForward (if t then f else g)
choice_forward true f g h k = h refl
choice_forward false f g h k = k

plain_forward : (k : Option Keyword) (word : List ℕ) → 0 < length word → GoesForward (plain_front k word)
plain_forward None word h = h
plain_forward (Some k) word h = h

numbered_forward : (k : Option Keyword) (word : List ℕ) (n : ℕ) (number : Option ℕ) → 0 < length word → GoesForward (numbered_front k word n number)
numbered_forward None word n None h = tt
numbered_forward None word n (Some zero) h = omega arith
numbered_forward None word n (Some (suc m)) h = omega arith
numbered_forward (Some k) word n None h = tt
numbered_forward (Some k) word n (Some zero) h = h
numbered_forward (Some k) word n (Some (suc m)) h = omega arith

word_forward : (word bs : List ℕ) → 0 < length word → GoesForward (word_front word bs)
word_forward word bs h =
    choice_forward (may_open (keyword_of word) && marks_number bs) (opened_front (keyword_of word) word (drop 1 bs)) (plain_front (keyword_of word) word)
    (λ e. numbered_forward (keyword_of word) word _ _ h) (plain_forward (keyword_of word) word h)

number_forward : (n : ℕ) (value : Option ℕ) → 0 < n → GoesForward (number_front n value)
number_forward n None h = tt
number_forward n (Some value) h = h

comment_forward : (n : Option ℕ) → GoesForward (comment_front n)
comment_forward None = tt
comment_forward (Some n) = omega arith

mark_forward : (s : Sign) → 0 < length (marks s)
mark_forward sign.Assign = omega arith
mark_forward _ = omega arith

sign_forward : (s : Option Sign) → GoesForward (sign_front s)
sign_forward None = tt
sign_forward (Some s) = mark_forward s

front_forward : (bs : List ℕ) → GoesForward (front bs)
front_forward [] = tt
front_forward (b ∷ bs) =
    choice_forward (is_blank b) _ _ (λ e. omega arith)
    (choice_forward (is_ascii_alphabetic b) _ _ (λ e. word_forward (take n (b ∷ bs)) (drop n (b ∷ bs)) (word e))
    (choice_forward (is_ascii_digit b) _ _ (λ e. number_forward _ _ (digit_run (b ∷ bs) e))
    (choice_forward (opens (b ∷ bs)) _ _ (λ e. comment_forward (comment_from 0 (drop 2 (b ∷ bs)))) (sign_forward (sign_at (b ∷ bs))))))
  where
    n : ℕ
    n = run_length is_word (b ∷ bs)

    word : is_ascii_alphabetic b ≡ true → 0 < length (take n (b ∷ bs))
    word e = let h : 0 < n = letter_run (b ∷ bs) e in omega (arith, h, length-take n (b ∷ bs))

token_takes : (bs : List ℕ) (s : Sort) (n : ℕ) → front bs ≡ Makes s n → (0 < n) × (0 < length bs)
token_takes [] s n e = absurd (cc)
token_takes (b ∷ bs) s n e = (rw e at (front_forward (b ∷ bs)), omega arith)

-- ---- what is cut

abbrev count : Result (List Token) LexFault → ℕ
count (Ok ts) = length ts
count (Err f) = 0

one_more : (t : Token) (r : Result (List Token) LexFault) → count (before t r) ≤ count r + 1
one_more t (Ok ts) = omega arith
one_more t (Err f) = omega arith

counted : {bs : List ℕ} {p : Place} {r : Result (List Token) LexFault} → Lexes bs p r → count r ≤ length bs + 1
counted (finish e) = omega arith
counted (gap {bs = bs} n e l) = let h = counted l in omega (arith, h, length-drop n bs)
counted (makes {bs = bs} {p = p} {r = r} s n e l) =
    let h = counted l in
    let f : (0 < n) × (0 < length bs) = token_takes bs s n e in
    omega (arith, h, f.0, f.1, length-drop n bs, one_more (record { sort = s; place = p }) r)
counted (bad_byte e) = omega arith
counted (long_number n e) = omega arith
counted (open_comment e) = omega arith

pub tokens_within : TokensAreBytes
tokens_within bytes p tokens l = counted l
