-- No action of a proof occurs where only values of texts are left.
use Rattle.std.proofs.Common.{◌≡◌, ℕ, ◌<◌, ◌≤◌, zero, suc, Bool, true, false, not, ◌&&◌, ◌||◌, nat_le, List, [], ◌∷◌, ◌++◌, refl, ◌+◌, get_or, arith}
use Rattle.std.specs.Prelude.{Option, Some, None, slice_get}
use Rattle.cb_lex.specs.declared.token.Sort.{Sort}
use Rattle.cb_lex.specs.declared.token.Sort.TheVariants as sort
use Rattle.cb_lex.specs.declared.token.Token.{Token}
use Rattle.cb_lex.specs.declared.token.Keyword.{Keyword}
use Rattle.cb_lex.specs.declared.token.Keyword.TheVariants as keyword
use Rattle.cb_lex.specs.declared.token.Sign.{Sign}
use Rattle.cb_lex.specs.declared.token.Sign.TheVariants as sign
use Rattle.cb_engine.specs.declared.Item.{Item}
use Rattle.cb_engine.specs.declared.Item.TheVariants.{Word, Do}
use Rattle.cb_engine.specs.Rules.{stands, group}
use Rattle.cb_engine.specs.Kinds.{Effect, effect_or, kinds, with_left, strip}
use Rattle.cb_engine.specs.Leading.{strip_is}
use Rattle.cb_engine.specs.Deciding.{both}
use Rattle.cb_grammar.specs.Signatures.{signatures, actions}
use Rattle.cb_amn_parse.specs.Own.{own_kinds, are_own, sort_kind}
use Rattle.cb_amn_parse.proofs.Hearing.{word_is_name}
use Rattle.cb_csp_parse.specs.TextKinds.{text_kinds, are_of_texts, is_process_word}

some_left : (f : List ℕ → Option (List ℕ)) (o : Option (List ℕ)) (end : List ℕ) → with_left f o ≡ Some end → (r : List ℕ) × (o ≡ Some r) × (f r ≡ Some end)
some_left f None end e = absurd (cc)
some_left f (Some r) end e = (r, refl, e)

joined : (a b : Bool) → a ≡ true → b ≡ true → (a && b) ≡ true
joined a b e f = rw (e, f) refl

text_append : (l r : List ℕ) → are_of_texts l ≡ true → are_of_texts r ≡ true → are_of_texts (l ++ r) ≡ true
text_append [] r e f = f
text_append (k ∷ l) r e f = joined (stands text_kinds k) (are_of_texts (l ++ r)) (both e).0 (text_append l r (both e).1 f)

text_parts : (l r : List ℕ) → are_of_texts (l ++ r) ≡ true → (are_of_texts l ≡ true) × (are_of_texts r ≡ true)
text_parts [] r e = (refl, e)
text_parts (k ∷ l) r e = let p = text_parts l r (both e).1 in (joined (stands text_kinds k) (are_of_texts l) (both e).0 p.0, p.1)

-- an action that leaves values of texts alone takes such alone
abbrev keeps_texts : Effect → Bool
keeps_texts e = not (are_of_texts e.leaves) || are_of_texts e.takes

abbrev all_keep : List Effect → Bool
all_keep [] = true
all_keep (e ∷ es) = keeps_texts e && all_keep es

tested : all_keep actions ≡ true
tested = refl

keeps_at : (es : List Effect) (n : ℕ) → all_keep es ≡ true → keeps_texts (effect_or (slice_get es n)) ≡ true
keeps_at [] n e = refl
keeps_at (x ∷ es) zero e = (both e).0
keeps_at (x ∷ es) (suc n) e = keeps_at es n (both e).1

text_takes : (n : ℕ) → are_of_texts (signatures.action n).leaves ≡ true → are_of_texts (signatures.action n).takes ≡ true
text_takes n e = go (are_of_texts (signatures.action n).leaves) e (keeps_at actions n tested)
  where
    go : (b : Bool) → b ≡ true → (not b || are_of_texts (signatures.action n).takes) ≡ true → are_of_texts (signatures.action n).takes ≡ true
    go true e f = f
    go false e f = absurd (cc)

-- what fits up to values of texts begins with such
text_before : (items : List Item) (k end : List ℕ) → kinds signatures items k ≡ Some end → are_of_texts end ≡ true → are_of_texts k ≡ true
text_before [] k end e o = let q : k ≡ end = cc in rw q o
text_before (Word t ∷ items) k end e o = (both (text_before items (signatures.word (group t.class) ∷ k) end e o)).1
text_before (Do n ∷ items) k end e o =
    let s = some_left (λ r. kinds signatures items ((signatures.action n).leaves ++ r)) (strip (signatures.action n).takes k) end e in
    let p = text_parts (signatures.action n).leaves s.0 (text_before items ((signatures.action n).leaves ++ s.0) end s.2 o) in
    rw (strip_is (signatures.action n).takes k s.0 s.1) (text_append (signatures.action n).takes s.0 (text_takes n p.0) p.1)

pub text_word : (items : List Item) (c : ℕ) (k end : List ℕ) → kinds signatures items (c ∷ k) ≡ Some end → are_of_texts end ≡ true → stands text_kinds c ≡ true
text_word items c k end e o = (both (text_before items (c ∷ k) end e o)).0

pub record Fitting (n : ℕ) (items : List Item) (k end : List ℕ) : Type 0 where
  pub below : List ℕ
  pub top : k ≡ (signatures.action n).takes ++ below
  pub on : kinds signatures items ((signatures.action n).leaves ++ below) ≡ Some end
  pub own : are_of_texts (signatures.action n).leaves ≡ true

pub fitting : (n : ℕ) (items : List Item) (k end : List ℕ) → kinds signatures (Do n ∷ items) k ≡ Some end → are_of_texts end ≡ true → Fitting n items k end
fitting n items k end e o =
    let s = some_left (λ r. kinds signatures items ((signatures.action n).leaves ++ r)) (strip (signatures.action n).takes k) end e in
    record {
      below = s.0;
      top = strip_is (signatures.action n).takes k s.0 s.1;
      on = s.2;
      own = (text_parts (signatures.action n).leaves s.0 (text_before items ((signatures.action n).leaves ++ s.0) end s.2 o)).0;
    }

-- the numbers of the actions of texts, channels, controllers and processes
abbrev is_new : ℕ → Bool
is_new n = nat_le n 5 || (nat_le 40 n && nat_le n 60)

abbrev all_known : ℕ → List Effect → Bool
all_known i [] = true
all_known i (e ∷ es) = (not (are_of_texts e.leaves) || (is_new i || are_own e.leaves)) && all_known (i + 1) es

known : all_known 0 actions ≡ true
known = refl

known_at : (i n : ℕ) (es : List Effect) → all_known i es ≡ true → are_of_texts (effect_or (slice_get es n)).leaves ≡ true → (is_new (i + n) || are_own (effect_or (slice_get es n)).leaves) ≡ true
known_at i n [] e o = absurd (cc)
known_at i zero (x ∷ es) e o = go (are_of_texts x.leaves) o (both e).0
  where
    go : (b : Bool) → b ≡ true → (not b || (is_new i || are_own x.leaves)) ≡ true → (is_new (i + 0) || are_own x.leaves) ≡ true
    go true o f = let q : i + 0 ≡ i = omega arith in rw q f
    go false o f = absurd (cc)
known_at i (suc n) (x ∷ es) e o =
    let q : i + suc n ≡ (i + 1) + n = omega arith in
    rw q (known_at (i + 1) n es (both e).1 o)

below : (a b : ℕ) → nat_le a b ≡ true → a ≤ b
below a b e = grind arith

-- the other actions of texts are those of machines
pub of_machines : (n : ℕ) → are_of_texts (signatures.action n).leaves ≡ true → 5 < n → (40 ≤ n → 60 < n) → are_own (signatures.action n).leaves ≡ true
of_machines n o low high =
    let q : 0 + n ≡ n = omega arith in
    pick (nat_le n 5) (nat_le 40 n && nat_le n 60) refl refl (rw q at (known_at 0 n actions known o))
  where
    not_first : n ≤ 5 → ⊥
    not_first l = omega (arith, low, l)

    not_second : 40 ≤ n → n ≤ 60 → ⊥
    not_second a b = let h = high a in omega (arith, h, b)

    pick : (a b : Bool) → nat_le n 5 ≡ a → (nat_le 40 n && nat_le n 60) ≡ b → ((a || b) || are_own (signatures.action n).leaves) ≡ true → are_own (signatures.action n).leaves ≡ true
    pick true b e f g = absurd (not_first (below n 5 e))
    pick false true e f g = absurd (not_second (below 40 n (both f).0) (below n 60 (both f).1))
    pick false false e f g = g

other_keyword : (k : Keyword) → stands text_kinds (sort_kind (sort.Keyword k)) ≡ true → is_process_word (sort.Keyword k) ≡ false → stands own_kinds (sort_kind (sort.Keyword k)) ≡ true
other_keyword keyword.Stop e n = absurd (cc)
other_keyword keyword.SkipProcess e n = absurd (cc)
other_keyword keyword.If e n = absurd (cc)
other_keyword k e n = e

other_sign : (k : Sign) → stands text_kinds (sort_kind (sort.Sign k)) ≡ true → stands own_kinds (sort_kind (sort.Sign k)) ≡ true
other_sign sign.Assign e = e
other_sign k e = e

-- the other words of texts are those of machines
other_word : (s : Sort) → stands text_kinds (sort_kind s) ≡ true → is_process_word s ≡ false → stands own_kinds (sort_kind s) ≡ true
other_word (sort.Word text) e n = rw (word_is_name text) refl
other_word (sort.Opened text number) e n = refl
other_word (sort.Number x) e n = refl
other_word (sort.Keyword k) e n = other_keyword k e n
other_word (sort.Sign k) e n = other_sign k e
other_word sort.Finish e n = e

same_token : (ts : List Token) (i : ℕ) (t r : Token) → slice_get ts i ≡ Some t → r ≡ get_or ts i r → t ≡ r
same_token [] i t r e f = absurd (cc)
same_token (x ∷ ts) zero t r e f = cc
same_token (x ∷ ts) (suc i) t r e f = same_token ts i t r e f

pub other_at : (ts : List Token) (i k : ℕ) (t r : Token) → slice_get ts i ≡ Some t → sort_kind t.sort ≡ k → r ≡ get_or ts i r → stands text_kinds k ≡ true → is_process_word r.sort ≡ false → stands own_kinds k ≡ true
other_at ts i k t r e q f own n =
    let same : t ≡ r = same_token ts i t r e f in
    let kind : sort_kind r.sort ≡ k = rw (← same) q in
    rw (← kind) (other_word r.sort (rw kind own) n)
