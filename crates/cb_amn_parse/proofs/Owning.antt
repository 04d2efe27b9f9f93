-- No action of another group occurs where only values of these kinds are left.
use Rattle.std.proofs.Common.{◌≡◌, ℕ, ◌<◌, zero, suc, Bool, true, false, not, ◌&&◌, ◌||◌, nat_le, List, [], ◌∷◌, ◌++◌, refl, ap, sym, ◌∙◌, map, reverse, length, arith, cond, drop, get_or, drop-cons, ◌+◌, ◌≤◌}
use Rattle.std.specs.Prelude.{Option, Some, None, slice_get}
use Rattle.std.proofs.lemmas.Option.{slice_get_past}
use Rattle.cb_engine.specs.declared.Terminal.{Terminal}
use Rattle.cb_engine.specs.declared.Item.{Item}
use Rattle.cb_engine.specs.declared.Item.TheVariants.{Word, Do}
use Rattle.cb_engine.specs.Rules.{stands, group}
use Rattle.cb_engine.specs.Kinds.{Effect, effect_or, kinds, with_left, strip}
use Rattle.cb_engine.specs.Leading.{strip_is}
use Rattle.cb_engine.specs.Deciding.{both}
use Rattle.cb_grammar.specs.Signatures.{signatures, actions, word_kind}
use Rattle.cb_amn_parse.specs.Own.{own_kinds, are_own}

some_left : (f : List ℕ → Option (List ℕ)) (o : Option (List ℕ)) (end : List ℕ) → with_left f o ≡ Some end → (r : List ℕ) × (o ≡ Some r) × (f r ≡ Some end)
some_left f None end e = absurd (cc)
some_left f (Some r) end e = (r, refl, e)

joined : (a b : Bool) → a ≡ true → b ≡ true → (a && b) ≡ true
joined a b e f = rw (e, f) refl

own_append : (l r : List ℕ) → are_own l ≡ true → are_own r ≡ true → are_own (l ++ r) ≡ true
own_append [] r e f = f
own_append (k ∷ l) r e f = joined (stands own_kinds k) (are_own (l ++ r)) (both e).0 (own_append l r (both e).1 f)

own_parts : (l r : List ℕ) → are_own (l ++ r) ≡ true → (are_own l ≡ true) × (are_own r ≡ true)
own_parts [] r e = (refl, e)
own_parts (k ∷ l) r e = let p = own_parts l r (both e).1 in (joined (stands own_kinds k) (are_own l) (both e).0 p.0, p.1)

-- an action that leaves values of these kinds alone takes such alone
abbrev keeps_own : Effect → Bool
keeps_own e = not (are_own e.leaves) || are_own e.takes

abbrev all_keep : List Effect → Bool
all_keep [] = true
all_keep (e ∷ es) = keeps_own e && all_keep es

tested : all_keep actions ≡ true
tested = refl

keeps_at : (es : List Effect) (n : ℕ) → all_keep es ≡ true → keeps_own (effect_or (slice_get es n)) ≡ true
keeps_at [] n e = refl
keeps_at (x ∷ es) zero e = (both e).0
keeps_at (x ∷ es) (suc n) e = keeps_at es n (both e).1

own_takes : (n : ℕ) → are_own (signatures.action n).leaves ≡ true → are_own (signatures.action n).takes ≡ true
own_takes n e = go (are_own (signatures.action n).leaves) e (keeps_at actions n tested)
  where
    go : (b : Bool) → b ≡ true → (not b || are_own (signatures.action n).takes) ≡ true → are_own (signatures.action n).takes ≡ true
    go true e f = f
    go false e f = absurd (cc)

-- what fits up to values of these kinds begins with such
pub own_before : (items : List Item) (k end : List ℕ) → kinds signatures items k ≡ Some end → are_own end ≡ true → are_own k ≡ true
own_before [] k end e o = let q : k ≡ end = cc in rw q o
own_before (Word t ∷ items) k end e o = (both (own_before items (signatures.word (group t.class) ∷ k) end e o)).1
own_before (Do n ∷ items) k end e o =
    let s = some_left (λ r. kinds signatures items ((signatures.action n).leaves ++ r)) (strip (signatures.action n).takes k) end e in
    let p = own_parts (signatures.action n).leaves s.0 (own_before items ((signatures.action n).leaves ++ s.0) end s.2 o) in
    rw (strip_is (signatures.action n).takes k s.0 s.1) (own_append (signatures.action n).takes s.0 (own_takes n p.0) p.1)

pub word_own : (items : List Item) (c : ℕ) (k end : List ℕ) → kinds signatures items (c ∷ k) ≡ Some end → are_own end ≡ true → stands own_kinds c ≡ true
word_own items c k end e o = (both (own_before items (c ∷ k) end e o)).0

pub record Fitting (n : ℕ) (items : List Item) (k end : List ℕ) : Type 0 where
  pub below : List ℕ
  pub top : k ≡ (signatures.action n).takes ++ below
  pub on : kinds signatures items ((signatures.action n).leaves ++ below) ≡ Some end
  pub own : are_own (signatures.action n).leaves ≡ true

pub fitting : (n : ℕ) (items : List Item) (k end : List ℕ) → kinds signatures (Do n ∷ items) k ≡ Some end → are_own end ≡ true → Fitting n items k end
fitting n items k end e o =
    let s = some_left (λ r. kinds signatures items ((signatures.action n).leaves ++ r)) (strip (signatures.action n).takes k) end e in
    record {
      below = s.0;
      top = strip_is (signatures.action n).takes k s.0 s.1;
      on = s.2;
      own = (own_parts (signatures.action n).leaves s.0 (own_before items ((signatures.action n).leaves ++ s.0) end s.2 o)).0;
    }

-- the numbers of the actions that leave values of these kinds
abbrev is_own_number : ℕ → Bool
is_own_number n = (nat_le 6 n && nat_le n 39) || (nat_le 61 n && nat_le n 83)

abbrev all_numbered : ℕ → List Effect → Bool
all_numbered i [] = true
all_numbered i (e ∷ es) = (not (are_own e.leaves) || is_own_number i) && all_numbered (i + 1) es

numbered : all_numbered 0 actions ≡ true
numbered = refl

number_at : (i n : ℕ) (es : List Effect) → all_numbered i es ≡ true → are_own (effect_or (slice_get es n)).leaves ≡ true → is_own_number (i + n) ≡ true
number_at i n [] e o = absurd (cc)
number_at i zero (x ∷ es) e o = go (are_own x.leaves) o (both e).0
  where
    go : (b : Bool) → b ≡ true → (not b || is_own_number i) ≡ true → is_own_number (i + 0) ≡ true
    go true o f = let q : i + 0 ≡ i = omega arith in rw q f
    go false o f = absurd (cc)
number_at i (suc n) (x ∷ es) e o =
    let q : i + suc n ≡ (i + 1) + n = omega arith in
    rw q (number_at (i + 1) n es (both e).1 o)

pub own_number : (n : ℕ) → are_own (signatures.action n).leaves ≡ true → is_own_number n ≡ true
own_number n o = let q : 0 + n ≡ n = omega arith in rw q at (number_at 0 n actions numbered o)

below : (a b : ℕ) → nat_le a b ≡ true → a ≤ b
below a b e = grind arith

pub record Bounds (n : ℕ) : Type 0 where
  pub low : 6 ≤ n
  pub high : n ≤ 83
  pub apart : 39 < n → 61 ≤ n

pub own_bounds : (n : ℕ) → are_own (signatures.action n).leaves ≡ true → Bounds n
own_bounds n o = go (nat_le 6 n && nat_le n 39) refl (own_number n o)
  where
    within : n ≤ 39 → n ≤ 83
    within h = omega (arith, h)

    outside : 39 < n → n ≤ 39 → ⊥
    outside a h = omega (arith, a, h)

    go : (b : Bool) → (nat_le 6 n && nat_le n 39) ≡ b → (b || (nat_le 61 n && nat_le n 83)) ≡ true → Bounds n
    go true e f =
        let l : 6 ≤ n = below 6 n (both e).0 in
        let h : n ≤ 39 = below n 39 (both e).1 in
        record { low = l; high = within h; apart = λ a. absurd (outside a h) }
    go false e f =
        let l : 61 ≤ n = below 61 n (both f).0 in
        record { low = omega (arith, l); high = below n 83 (both f).1; apart = λ a. l }

-- what fits from an action on fits after it
pub acted : (n : ℕ) (old new : List ℕ) (items : List Item) (end : List ℕ) → ((r : List ℕ) → old ≡ (signatures.action n).takes ++ r → new ≡ (signatures.action n).leaves ++ r) → kinds signatures (Do n ∷ items) old ≡ Some end → kinds signatures items new ≡ Some end
acted n old new items end turns e =
    let s = some_left (λ r. kinds signatures items ((signatures.action n).leaves ++ r)) (strip (signatures.action n).takes old) end e in
    rw (turns s.0 (strip_is (signatures.action n).takes old s.0 s.1)) s.2
