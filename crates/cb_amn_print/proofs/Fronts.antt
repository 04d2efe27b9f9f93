-- A token that is printed with a blank behind it is read as that token.
use Rattle.std.proofs.Common.{◌≡◌, ℕ, zero, suc, ◌≤◌, ◌<◌, ◌+◌, ◌*◌, ◌-◌, ◌^◌, Bool, true, false, List, [], ◌∷◌, ◌++◌, length, take, drop, refl, ap, sym, ◌∙◌, arith, append_assoc}
use Rattle.std.specs.Prelude.{Option, Some, None, pos, ◌&&◌, nat_le, if◌then◌else◌, codes, decimal}
use Rattle.std.specs.Char.{is_ascii_digit, is_ascii_alphabetic}
use Rattle.std.specs.Char.{digit_value}
use Rattle.std.proofs.lemmas.Str.Parse.{digit_at}
use Rattle.std.proofs.lemmas.List.{length-append}
use Rattle.std.specs.Str.Parse.{AllDigits, digits_value_after, digits_value}
use Rattle.std.proofs.lemmas.Fmt.{decimal_is_IsNumeral}
use Rattle.cb_lex.specs.declared.token.Keyword.{Keyword}
use Rattle.cb_lex.specs.declared.token.Keyword.TheVariants as keyword
use Rattle.cb_lex.specs.declared.token.Sign.{Sign}
use Rattle.cb_lex.specs.declared.token.Sign.TheVariants as sign
use Rattle.cb_lex.specs.declared.token.Sort.{Sort}
use Rattle.cb_lex.specs.declared.token.Sort.TheVariants as sort
use Rattle.cb_lex.specs.declared.front.Front.{Front}
use Rattle.cb_lex.specs.declared.front.Front.TheVariants.{Gap, Makes}
use Rattle.cb_lex.specs.Spelling.{letters, keyword_of, marks, sign_at}
use Rattle.cb_lex.specs.Lexis.{is_blank, is_word, run_length, starts, value_from, number_of, marks_number, may_open, plain_front, numbered_front, opened_front, word_front, number_front, digits_front, other_front, front}
use Rattle.cb_amn_print.specs.Tokens.{sort_text}

abbrev pub all_in : (ℕ → Bool) → List ℕ → Bool
all_in p [] = true
all_in p (b ∷ bs) = p b && all_in p bs

pub both : {a b : Bool} → (a && b) ≡ true → (a ≡ true) × (b ≡ true)
both {a = true} {b = b} e = (refl, e)
both {a = false} {b = b} e = absurd (cc)

-- a run that another byte ends
pub run_of : (p : ℕ → Bool) (xs : List ℕ) (y : ℕ) (ys : List ℕ) → all_in p xs ≡ true → p y ≡ false → run_length p (xs ++ y ∷ ys) ≡ length xs
run_of p [] y ys a e = rw e refl
run_of p (x ∷ xs) y ys a e =
    let h : p x ≡ true = (both a).0 in
    let q : 1 + length xs ≡ suc (length xs) = omega arith in
    let all : all_in p xs ≡ true = (both a).1 in
    let r : run_length p (xs ++ y ∷ ys) ≡ length xs = run_of p xs y ys all e in
    rw (h, r) q

pub take_of : (xs ys : List ℕ) → take (length xs) (xs ++ ys) ≡ xs
take_of [] ys = refl
take_of (x ∷ xs) ys = ap (λ (l : List ℕ). x ∷ l) (take_of xs ys)

pub drop_of : (xs ys : List ℕ) → drop (length xs) (xs ++ ys) ≡ ys
drop_of [] ys = refl
drop_of (x ∷ xs) ys = drop_of xs ys

-- ---- words

-- a letter and then bytes of a word
pub record IsWord (text : List ℕ) : Type 0 where
  pub first : starts is_ascii_alphabetic text ≡ true
  pub all : all_in is_word text ≡ true

word_at : (b : ℕ) (text : List ℕ) (y : ℕ) (ys : List ℕ) → is_ascii_alphabetic b ≡ true → all_in is_word (b ∷ text) ≡ true → is_word y ≡ false → front ((b ∷ text) ++ y ∷ ys) ≡ word_front (b ∷ text) (y ∷ ys)
word_at b text y ys l a e =
    let blank : is_blank b ≡ false = grind arith in
    let run : run_length is_word ((b ∷ text) ++ y ∷ ys) ≡ length (b ∷ text) = run_of is_word (b ∷ text) y ys a e in
    let front_is : take (length (b ∷ text)) ((b ∷ text) ++ y ∷ ys) ≡ b ∷ text = take_of (b ∷ text) (y ∷ ys) in
    let back_is : drop (length (b ∷ text)) ((b ∷ text) ++ y ∷ ys) ≡ y ∷ ys = drop_of (b ∷ text) (y ∷ ys) in
    go (is_blank b) (is_ascii_alphabetic b) blank l (ap (λ (n : ℕ). word_front (take n ((b ∷ text) ++ y ∷ ys)) (drop n ((b ∷ text) ++ y ∷ ys))) run ∙ ap (λ (w : List ℕ). word_front w (drop (length (b ∷ text)) ((b ∷ text) ++ y ∷ ys))) front_is ∙ ap (λ (w : List ℕ). word_front (b ∷ text) w) back_is)
  where
    go : (t u : Bool) → t ≡ false → u ≡ true → word_front (take (run_length is_word ((b ∷ text) ++ y ∷ ys)) ((b ∷ text) ++ y ∷ ys)) (drop (run_length is_word ((b ∷ text) ++ y ∷ ys)) ((b ∷ text) ++ y ∷ ys)) ≡ word_front (b ∷ text) (y ∷ ys) →
        (if t then Gap 1 else (if u then word_front (take (run_length is_word ((b ∷ text) ++ y ∷ ys)) ((b ∷ text) ++ y ∷ ys)) (drop (run_length is_word ((b ∷ text) ++ y ∷ ys)) ((b ∷ text) ++ y ∷ ys)) else (if is_ascii_digit b then digits_front ((b ∷ text) ++ y ∷ ys) else other_front ((b ∷ text) ++ y ∷ ys)))) ≡ word_front (b ∷ text) (y ∷ ys)
    go true u p q e = absurd (cc)
    go false false p q e = absurd (cc)
    go false true p q e = e

pub front_word : (text : List ℕ) (y : ℕ) (ys : List ℕ) → IsWord text → is_word y ≡ false → front (text ++ y ∷ ys) ≡ word_front text (y ∷ ys)
front_word [] y ys w e = absurd (let q = w.first in cc)
front_word (b ∷ text) y ys w e = word_at b text y ys w.first w.all e

plain_at : (text ys : List ℕ) → word_front text (32 ∷ ys) ≡ plain_front (keyword_of text) text
plain_at text ys = go (may_open (keyword_of text))
  where
    go : (t : Bool) → (if t && false then opened_front (keyword_of text) text ys else plain_front (keyword_of text) text) ≡ plain_front (keyword_of text) text
    go true = refl
    go false = refl

pub front_plain : (text ys : List ℕ) → IsWord text → front (text ++ 32 ∷ ys) ≡ plain_front (keyword_of text) text
front_plain text ys w = front_word text 32 ys w refl ∙ plain_at text ys

pub letters_first : (k : Keyword) → starts is_ascii_alphabetic (letters k) ≡ true
letters_first keyword.Machine = refl
letters_first keyword.Sees = refl
letters_first keyword.Sets = refl
letters_first keyword.Constants = refl
letters_first keyword.Properties = refl
letters_first keyword.Variables = refl
letters_first keyword.Invariant = refl
letters_first keyword.Initialisation = refl
letters_first keyword.Operations = refl
letters_first keyword.End = refl
letters_first keyword.Pre = refl
letters_first keyword.Then = refl
letters_first keyword.If = refl
letters_first keyword.Elsif = refl
letters_first keyword.Else = refl
letters_first keyword.Choice = refl
letters_first keyword.ChoiceOr = refl
letters_first keyword.AnyOf = refl
letters_first keyword.Where = refl
letters_first keyword.Begin = refl
letters_first keyword.Channels = refl
letters_first keyword.Controller = refl
letters_first keyword.Machines = refl
letters_first keyword.Start = refl
letters_first keyword.Processes = refl
letters_first keyword.Inv = refl
letters_first keyword.System = refl
letters_first keyword.Proof = refl
letters_first keyword.Stop = refl
letters_first keyword.SkipProcess = refl
letters_first keyword.True = refl
letters_first keyword.False = refl
letters_first keyword.Truths = refl
letters_first keyword.Nat = refl
letters_first keyword.Nat1 = refl
letters_first keyword.Int = refl
letters_first keyword.MaxInt = refl
letters_first keyword.MinInt = refl
letters_first keyword.Skip = refl
letters_first keyword.Any = refl
letters_first keyword.Or = refl
letters_first keyword.Not = refl
letters_first keyword.Mod = refl
letters_first keyword.Card = refl
letters_first keyword.Bool = refl
letters_first keyword.AlwaysTrue = refl
letters_first keyword.AlwaysFalse = refl

pub letters_all : (k : Keyword) → all_in is_word (letters k) ≡ true
letters_all keyword.Machine = refl
letters_all keyword.Sees = refl
letters_all keyword.Sets = refl
letters_all keyword.Constants = refl
letters_all keyword.Properties = refl
letters_all keyword.Variables = refl
letters_all keyword.Invariant = refl
letters_all keyword.Initialisation = refl
letters_all keyword.Operations = refl
letters_all keyword.End = refl
letters_all keyword.Pre = refl
letters_all keyword.Then = refl
letters_all keyword.If = refl
letters_all keyword.Elsif = refl
letters_all keyword.Else = refl
letters_all keyword.Choice = refl
letters_all keyword.ChoiceOr = refl
letters_all keyword.AnyOf = refl
letters_all keyword.Where = refl
letters_all keyword.Begin = refl
letters_all keyword.Channels = refl
letters_all keyword.Controller = refl
letters_all keyword.Machines = refl
letters_all keyword.Start = refl
letters_all keyword.Processes = refl
letters_all keyword.Inv = refl
letters_all keyword.System = refl
letters_all keyword.Proof = refl
letters_all keyword.Stop = refl
letters_all keyword.SkipProcess = refl
letters_all keyword.True = refl
letters_all keyword.False = refl
letters_all keyword.Truths = refl
letters_all keyword.Nat = refl
letters_all keyword.Nat1 = refl
letters_all keyword.Int = refl
letters_all keyword.MaxInt = refl
letters_all keyword.MinInt = refl
letters_all keyword.Skip = refl
letters_all keyword.Any = refl
letters_all keyword.Or = refl
letters_all keyword.Not = refl
letters_all keyword.Mod = refl
letters_all keyword.Card = refl
letters_all keyword.Bool = refl
letters_all keyword.AlwaysTrue = refl
letters_all keyword.AlwaysFalse = refl

-- ---- signs

pub front_sign : (s : Sign) (ys : List ℕ) → front (marks s ++ 32 ∷ ys) ≡ Makes (sort.Sign s) (length (marks s))
unfolding sign_at
front_sign sign.Assign ys = refl
front_sign sign.Among ys = refl
front_sign sign.Parallel ys = refl
front_sign sign.Returns ys = refl
front_sign sign.Member ys = refl
front_sign sign.NotMember ys = refl
front_sign sign.Subset ys = refl
front_sign sign.Union ys = refl
front_sign sign.Intersection ys = refl
front_sign sign.UpTo ys = refl
front_sign sign.Dot ys = refl
front_sign sign.Comma ys = refl
front_sign sign.Semicolon ys = refl
front_sign sign.And ys = refl
front_sign sign.Implies ys = refl
front_sign sign.Equivalent ys = refl
front_sign sign.Equal ys = refl
front_sign sign.Unequal ys = refl
front_sign sign.Less ys = refl
front_sign sign.AtMost ys = refl
front_sign sign.Greater ys = refl
front_sign sign.AtLeast ys = refl
front_sign sign.Bang ys = refl
front_sign sign.Query ys = refl
front_sign sign.Hash ys = refl
front_sign sign.OpenParenthesis ys = refl
front_sign sign.CloseParenthesis ys = refl
front_sign sign.OpenBrace ys = refl
front_sign sign.CloseBrace ys = refl
front_sign sign.OpenBracket ys = refl
front_sign sign.CloseBracket ys = refl
front_sign sign.ExternalChoice ys = refl
front_sign sign.InternalChoice ys = refl
front_sign sign.Arrow ys = refl
front_sign sign.Plus ys = refl
front_sign sign.Minus ys = refl
front_sign sign.Times ys = refl
front_sign sign.Divide ys = refl

-- ---- numbers

-- a byte of a decimal number
digit_is : (c : ℕ) → 48 ≤ c → c ≤ 57 → (is_ascii_digit c ≡ true) × ((c - 48 ≡ digit_value c) × ((is_blank c ≡ false) × (is_ascii_alphabetic c ≡ false)))
digit_is c l h = (grind arith, (grind arith, (grind arith, grind arith)))

digit_first : (c : ℕ) (cs : List ℕ) → AllDigits 10 (c ∷ cs) → (48 ≤ c) × (c ≤ 57)
digit_first c cs d = let r = digit_at (c ∷ cs) 0 d (omega arith) in (r.0, r.1)

all_digits : (ds : List ℕ) → AllDigits 10 ds → all_in is_ascii_digit ds ≡ true
all_digits [] d = refl
all_digits (c ∷ cs) d =
    let r = digit_first c cs d in
    let e : is_ascii_digit c ≡ true = (digit_is c r.0 r.1).0 in
    rw e (all_digits cs d.1)

value_is : (n : ℕ) (ds : List ℕ) → AllDigits 10 ds → value_from n ds ≡ digits_value_after 10 n ds
value_is n [] d = refl
value_is n (c ∷ cs) d =
    let r = digit_first c cs d in
    let e : c - 48 ≡ digit_value c = (digit_is c r.0 r.1).1.0 in
    ap (λ (x : ℕ). value_from (n * 10 + x) cs) e ∙ value_is (n * 10 + digit_value c) cs d.1

number_is : (limit v : ℕ) (ds : List ℕ) → value_from 0 ds ≡ v → v ≤ limit → number_of limit ds ≡ Some v
unfolding number_of
number_is limit v ds e l =
    let t : nat_le v limit ≡ true = grind arith in
    let s : (if nat_le v limit then Some v else None) ≡ Some v = rw t refl in
    ap (λ (x : ℕ). if nat_le x limit then Some x else None) e ∙ s

-- what is known of a decimal number
record Numeral (n : ℕ) (ds : List ℕ) : Type 0 where
  pub digits : all_in is_ascii_digit ds ≡ true
  pub value : value_from 0 ds ≡ n
  pub first : (c : ℕ) × ((cs : List ℕ) × ((ds ≡ c ∷ cs) × ((48 ≤ c) × (c ≤ 57))))

numeral : (n : ℕ) → n < 2 ^ 64 → Numeral n (decimal n)
numeral n l = let q = decimal_is_IsNumeral n l in of (decimal n) q.0.0 q.0.1 q.1
  where
    of : (ds : List ℕ) → 0 < length ds → AllDigits 10 ds → digits_value 10 ds ≡ n → Numeral n ds
    of [] l d e = absurd (omega arith)
    of (c ∷ cs) l d e = record { digits = all_digits (c ∷ cs) d; value = value_is 0 (c ∷ cs) d ∙ e; first = (c, (cs, (refl, digit_first c cs d))) }

-- digits and a byte that is none
digits_end : (n limit : ℕ) (ds : List ℕ) (y : ℕ) (ys : List ℕ) → Numeral n ds → n ≤ limit → is_ascii_digit y ≡ false →
    (run_length is_ascii_digit (ds ++ y ∷ ys) ≡ length ds) × (number_of limit (take (run_length is_ascii_digit (ds ++ y ∷ ys)) (ds ++ y ∷ ys)) ≡ Some n)
digits_end n limit ds y ys q l e =
    let r : run_length is_ascii_digit (ds ++ y ∷ ys) ≡ length ds = run_of is_ascii_digit ds y ys q.digits e in
    (r, ap (λ (m : ℕ). number_of limit (take m (ds ++ y ∷ ys))) r ∙ ap (λ (xs : List ℕ). number_of limit xs) (take_of ds (y ∷ ys)) ∙ number_is limit n ds q.value l)

number_at : (n c : ℕ) (cs ys : List ℕ) → Numeral n (c ∷ cs) → n ≤ 9223372036854775807 → 48 ≤ c → c ≤ 57 → front ((c ∷ cs) ++ 32 ∷ ys) ≡ Makes (sort.Number (pos n)) (length (c ∷ cs))
number_at n c cs ys q l low high =
    let d = digit_is c low high in
    let r = digits_end n 9223372036854775807 (c ∷ cs) 32 ys q l refl in
    go (is_blank c) (is_ascii_alphabetic c) (is_ascii_digit c) d.1.1.0 d.1.1.1 d.0 (ap (λ (m : ℕ). number_front m (number_of 9223372036854775807 (take (run_length is_ascii_digit ((c ∷ cs) ++ 32 ∷ ys)) ((c ∷ cs) ++ 32 ∷ ys)))) r.0 ∙ ap (λ (v : Option ℕ). number_front (length (c ∷ cs)) v) r.1)
  where
    word : Front
    word = word_front (take (run_length is_word ((c ∷ cs) ++ 32 ∷ ys)) ((c ∷ cs) ++ 32 ∷ ys)) (drop (run_length is_word ((c ∷ cs) ++ 32 ∷ ys)) ((c ∷ cs) ++ 32 ∷ ys))

    go : (t u v : Bool) → t ≡ false → u ≡ false → v ≡ true → digits_front ((c ∷ cs) ++ 32 ∷ ys) ≡ Makes (sort.Number (pos n)) (length (c ∷ cs)) →
        (if t then Gap 1 else (if u then word_front (take (run_length is_word ((c ∷ cs) ++ 32 ∷ ys)) ((c ∷ cs) ++ 32 ∷ ys)) (drop (run_length is_word ((c ∷ cs) ++ 32 ∷ ys)) ((c ∷ cs) ++ 32 ∷ ys)) else (if v then digits_front ((c ∷ cs) ++ 32 ∷ ys) else other_front ((c ∷ cs) ++ 32 ∷ ys)))) ≡ Makes (sort.Number (pos n)) (length (c ∷ cs))
    go true u v a b d e = absurd (cc)
    go false true v a b d e = absurd (cc)
    go false false false a b d e = absurd (cc)
    go false false true a b d e = e

front_number : (n : ℕ) (ys : List ℕ) → n ≤ 9223372036854775807 → front (decimal n ++ 32 ∷ ys) ≡ Makes (sort.Number (pos n)) (length (decimal n))
front_number n ys l = of (decimal n) (numeral n (omega arith))
  where
    of : (ds : List ℕ) → Numeral n ds → front (ds ++ 32 ∷ ys) ≡ Makes (sort.Number (pos n)) (length ds)
    of [] q = let e = q.first.1.1.0 in absurd (cc)
    of (c ∷ cs) q =
        let e = q.first.1.1.0 in
        let s : c ≡ q.first.0 = cc in
        number_at n c cs ys q l (rw s q.first.1.1.1.0) (rw s q.first.1.1.1.1)

-- ---- opened names

opened_at : (text ds : List ℕ) (n : ℕ) (ys : List ℕ) → Numeral (suc n) ds → suc n ≤ 4294967295 → may_open (keyword_of text) ≡ true →
    word_front text (35 ∷ (ds ++ 32 ∷ ys)) ≡ Makes (sort.Opened text (suc n)) (length text + (1 + length ds))
opened_at text ds n ys q l m =
    let e = q.first.1.1.0 in
    let marked : marks_number (35 ∷ (ds ++ 32 ∷ ys)) ≡ true = rw e (digit_is q.first.0 q.first.1.1.1.0 q.first.1.1.1.1).0 in
    let r = digits_end (suc n) 4294967295 ds 32 ys q l refl in
    go (may_open (keyword_of text)) (marks_number (35 ∷ (ds ++ 32 ∷ ys))) m marked
    (ap (λ (k : ℕ). numbered_front (keyword_of text) text (1 + k) (number_of 4294967295 (take (run_length is_ascii_digit (ds ++ 32 ∷ ys)) (ds ++ 32 ∷ ys)))) r.0 ∙ ap (λ (v : Option ℕ). numbered_front (keyword_of text) text (1 + length ds) v) r.1 ∙ numbered (keyword_of text))
  where
    numbered : (k : Option Keyword) → numbered_front k text (1 + length ds) (Some (suc n)) ≡ Makes (sort.Opened text (suc n)) (length text + (1 + length ds))
    numbered None = refl
    numbered (Some k) = refl

    go : (t u : Bool) → t ≡ true → u ≡ true → opened_front (keyword_of text) text (ds ++ 32 ∷ ys) ≡ Makes (sort.Opened text (suc n)) (length text + (1 + length ds)) →
        (if t && u then opened_front (keyword_of text) text (ds ++ 32 ∷ ys) else plain_front (keyword_of text) text) ≡ Makes (sort.Opened text (suc n)) (length text + (1 + length ds))
    go false u a b e = absurd (cc)
    go true false a b e = absurd (cc)
    go true true a b e = e

-- ---- tokens

-- what the lexer makes a token of
abbrev pub IsRead : Sort → Type 0
IsRead (sort.Word text) = IsWord text × (keyword_of text ≡ None)
IsRead (sort.Opened text number) = IsWord text × ((may_open (keyword_of text) ≡ true) × ((0 < number) × (number ≤ 4294967295)))
IsRead (sort.Number z) = (n : ℕ) × ((z ≡ pos n) × (n ≤ 9223372036854775807))
IsRead (sort.Keyword k) = keyword_of (letters k) ≡ Some k
IsRead (sort.Sign s) = Unit {0}
IsRead sort.Finish = ⊥

-- and the end of a text
abbrev pub IsToken : Sort → Type 0
IsToken sort.Finish = Unit {0}
IsToken s = IsRead s

-- it is that token where a blank stands behind it
pub front_said : (s : Sort) (ys : List ℕ) → IsRead s → front (sort_text s ++ 32 ∷ ys) ≡ Makes s (length (sort_text s))
front_said (sort.Word text) ys q = front_plain text ys q.0 ∙ ap (λ (k : Option Keyword). plain_front k text) q.1
front_said (sort.Opened text zero) ys q = absurd (omega (arith, q.1.1.0))
front_said (sort.Opened text (suc n)) ys q =
    let m = numeral (suc n) (omega (arith, q.1.1.1)) in
    let a : (text ++ codes "#" ++ decimal (suc n)) ++ 32 ∷ ys ≡ text ++ (35 ∷ (decimal (suc n) ++ 32 ∷ ys)) = append_assoc (text ++ codes "#") (decimal (suc n)) (32 ∷ ys) ∙ append_assoc text (codes "#") (decimal (suc n) ++ 32 ∷ ys) in
    let l : length (text ++ codes "#" ++ decimal (suc n)) ≡ length text + (1 + length (decimal (suc n))) = let x : length (text ++ codes "#") ≡ length text + 1 = length-append text (codes "#") in length-append (text ++ codes "#") (decimal (suc n)) ∙ omega (arith, x) in
    ap front a ∙ front_word text 35 (decimal (suc n) ++ 32 ∷ ys) q.0 refl ∙ opened_at text (decimal (suc n)) n ys m q.1.1.1 q.1.0 ∙ ap (λ (k : ℕ). Makes (sort.Opened text (suc n)) k) (sym l)
front_said (sort.Number z) ys q = rw q.1.0 (front_number q.0 ys q.1.1)
front_said (sort.Keyword k) ys q = front_plain (letters k) ys (record { first = letters_first k; all = letters_all k }) ∙ ap (λ (j : Option Keyword). plain_front j (letters k)) q
front_said (sort.Sign s) ys q = front_sign s ys
front_said sort.Finish ys q = absurd q
