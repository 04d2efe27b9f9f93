use Rattle.std.proofs.Common.{◌≡◌, ℕ, ◌≤◌, ◌<◌, ◌+◌, Bool, true, false, List, [], ◌∷◌, length, take, drop, zero, suc, refl, ap, subst, arith}
use Rattle.std.proofs.lemmas.List.{drop-drop, length-take-le}
use Rattle.std.specs.Prelude.{Option, Some, None, ◌&&◌, if◌then◌else◌}
use Rattle.std.specs.Char.{is_ascii_digit}
use Rattle.cb_lex.specs.declared.token.Keyword.{Keyword}
use Rattle.cb_lex.specs.declared.token.Sign.{Sign}
use Rattle.cb_lex.specs.declared.front.Front.TheVariants.{Gap}
use Rattle.cb_lex.specs.Spelling.{keyword_of, sign_at}
use Rattle.cb_lex.specs.Lexis.{is_blank, is_word, run_length, starts, comment_from, opens, marks_number, may_open, plain_front, numbered_front, opened_front, word_front, number_front, digits_front, comment_front, sign_front, other_front, front}
use Rattle.std.specs.Char.{is_ascii_alphabetic}
use Rattle.cb_lex.specs.Laws.{IsLongest}
use Rattle.cb_lex.proofs.Spelled.{sign_longest, sign_none}

run_within : (p : ℕ → Bool) (bs : List ℕ) → run_length p bs ≤ length bs
run_within p [] = omega arith
run_within p (b ∷ bs) = go (p b) (run_within p bs)
  where
    go : (t : Bool) → run_length p bs ≤ length bs → (if t then 1 + run_length p bs else 0) ≤ length (b ∷ bs)
    go true h = omega arith
    go false h = omega arith

-- a run goes on for as long as it can
run_ends : (p : ℕ → Bool) (bs : List ℕ) → starts p (drop (run_length p bs) bs) ≡ false
run_ends p [] = refl
run_ends p (b ∷ bs) = go (p b) refl (run_ends p bs)
  where
    go : (t : Bool) → p b ≡ t → starts p (drop (run_length p bs) bs) ≡ false → starts p (drop (run_length p (b ∷ bs)) (b ∷ bs)) ≡ false
    go true e h = let q : 1 + run_length p bs ≡ suc (run_length p bs) = omega arith in rw (e, q) h
    go false e h = rw (e, e) refl

plain_longest : (k : Option Keyword) (word bs : List ℕ) → starts is_word (drop (length word) bs) ≡ false → (may_open k && marks_number (drop (length word) bs)) ≡ false → IsLongest bs (plain_front k word)
plain_longest None word bs a b = (λ e. (a, b), λ l. absurd (omega arith))
plain_longest (Some k) word bs a b = a

numbered_longest : (k : Option Keyword) (word bs : List ℕ) (n : ℕ) (number : Option ℕ) → 0 < n → starts is_word (drop (length word) bs) ≡ false → starts is_ascii_digit (drop (length word + n) bs) ≡ false → IsLongest bs (numbered_front k word n number)
numbered_longest None word bs n None l a d = tt
numbered_longest (Some k) word bs n None l a d = tt
numbered_longest None word bs n (Some zero) l a d = (λ e. absurd (omega arith), λ h. d)
numbered_longest (Some k) word bs n (Some zero) l a d = a
numbered_longest None word bs n (Some (suc m)) l a d = d
numbered_longest (Some k) word bs n (Some (suc m)) l a d = d

ends_at : (l d : ℕ) (bs : List ℕ) → starts is_ascii_digit (drop d (drop 1 (drop l bs))) ≡ false → starts is_ascii_digit (drop (l + (1 + d)) bs) ≡ false
ends_at l d bs h = let q : l + (1 + d) ≡ l + 1 + d = omega arith in rw q (simp drop-drop at h)

word_longest : (word bs : List ℕ) → starts is_word (drop (length word) bs) ≡ false → IsLongest bs (word_front word (drop (length word) bs))
word_longest word bs a = go (may_open (keyword_of word) && marks_number (drop (length word) bs)) refl
  where
    ends : starts is_ascii_digit (drop (length word + (1 + run_length is_ascii_digit (drop 1 (drop (length word) bs)))) bs) ≡ false
    ends = ends_at (length word) _ bs (run_ends is_ascii_digit (drop 1 (drop (length word) bs)))

    go : (t : Bool) → (may_open (keyword_of word) && marks_number (drop (length word) bs)) ≡ t → IsLongest bs (if t then opened_front (keyword_of word) word (drop 1 (drop (length word) bs)) else plain_front (keyword_of word) word)
    go true e = numbered_longest (keyword_of word) word bs _ _ (omega arith) a ends
    go false e = plain_longest (keyword_of word) word bs a e

taken_longest : (n : ℕ) (bs : List ℕ) → n ≤ length bs → starts is_word (drop n bs) ≡ false → IsLongest bs (word_front (take n bs) (drop n bs))
taken_longest n bs h a =
    let e : length (take n bs) ≡ n = length-take-le n bs h in
    let r : drop (length (take n bs)) bs ≡ drop n bs = ap (λ (m : ℕ). drop m bs) e in
    subst (λ (xs : List ℕ). IsLongest bs (word_front (take n bs) xs)) r (word_longest (take n bs) bs (rw e a))

digits_longest : (bs : List ℕ) (number : Option ℕ) → IsLongest bs (number_front (run_length is_ascii_digit bs) number)
digits_longest bs None = tt
digits_longest bs (Some value) = run_ends is_ascii_digit bs

other_longest : (bs : List ℕ) → IsLongest bs (other_front bs)
other_longest bs = go (opens bs) (comment_from 0 (drop 2 bs)) (sign_at bs) refl
  where
    go : (t : Bool) (n : Option ℕ) (s : Option Sign) → sign_at bs ≡ s → IsLongest bs (if t then comment_front n else sign_front s)
    go true None s e = tt
    go true (Some n) s e = tt
    go false n None e = sign_none bs e
    go false n (Some s) e = sign_longest bs s e

pub front_longest : (bs : List ℕ) → IsLongest bs (front bs)
front_longest [] = tt
front_longest (b ∷ bs) = go (is_blank b) (is_ascii_alphabetic b) (is_ascii_digit b)
  where
    word : IsLongest (b ∷ bs) (word_front (take (run_length is_word (b ∷ bs)) (b ∷ bs)) (drop (run_length is_word (b ∷ bs)) (b ∷ bs)))
    word = taken_longest (run_length is_word (b ∷ bs)) (b ∷ bs) (run_within is_word (b ∷ bs)) (run_ends is_word (b ∷ bs))

    go : (t u v : Bool) → IsLongest (b ∷ bs) (if t then Gap 1 else (if u then word_front (take (run_length is_word (b ∷ bs)) (b ∷ bs)) (drop (run_length is_word (b ∷ bs)) (b ∷ bs)) else (if v then digits_front (b ∷ bs) else other_front (b ∷ bs))))
    go true u v = tt
    go false true v = word
    go false false true = digits_longest (b ∷ bs) _
    go false false false = other_longest (b ∷ bs)
