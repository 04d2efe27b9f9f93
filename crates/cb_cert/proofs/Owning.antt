-- Where only values of proofs are left, only actions and words of proofs occur.
use Rattle.std.proofs.Common.{◌≡◌, ℕ, zero, suc, Bool, true, false, not, ◌&&◌, ◌||◌, nat_le, List, [], ◌∷◌, ◌++◌, refl, arith, ◌+◌, ◌≤◌}
use Rattle.std.specs.Prelude.{Option, Some, None, slice_get}
use Rattle.cb_engine.specs.declared.Item.{Item}
use Rattle.cb_engine.specs.declared.Item.TheVariants.{Word, Do}
use Rattle.cb_engine.specs.Rules.{stands, group}
use Rattle.cb_engine.specs.Kinds.{Effect, effect_or, kinds, with_left, strip}
use Rattle.cb_engine.specs.Leading.{strip_is}
use Rattle.cb_engine.specs.Deciding.{both}
use Rattle.cb_grammar.specs.Signatures.{signatures, actions}
use Rattle.cb_amn_parse.specs.Own.{are_own}
use Rattle.cb_cert.specs.Own.{proof_kinds, are_of_proofs}

some_left : (f : List ℕ → Option (List ℕ)) (o : Option (List ℕ)) (end : List ℕ) → with_left f o ≡ Some end → (r : List ℕ) × (o ≡ Some r) × (f r ≡ Some end)
some_left f None end e = absurd (cc)
some_left f (Some r) end e = (r, refl, e)

joined : (a b : Bool) → a ≡ true → b ≡ true → (a && b) ≡ true
joined a b e f = rw (e, f) refl

proofs_append : (l r : List ℕ) → are_of_proofs l ≡ true → are_of_proofs r ≡ true → are_of_proofs (l ++ r) ≡ true
proofs_append [] r e f = f
proofs_append (k ∷ l) r e f = joined (stands proof_kinds k) (are_of_proofs (l ++ r)) (both e).0 (proofs_append l r (both e).1 f)

proofs_parts : (l r : List ℕ) → are_of_proofs (l ++ r) ≡ true → (are_of_proofs l ≡ true) × (are_of_proofs r ≡ true)
proofs_parts [] r e = (refl, e)
proofs_parts (k ∷ l) r e = let p = proofs_parts l r (both e).1 in (joined (stands proof_kinds k) (are_of_proofs l) (both e).0 p.0, p.1)

-- an action that leaves values of these kinds alone takes such alone
abbrev keeps_proofs : Effect → Bool
keeps_proofs e = not (are_of_proofs e.leaves) || are_of_proofs e.takes

abbrev all_keep : List Effect → Bool
all_keep [] = true
all_keep (e ∷ es) = keeps_proofs e && all_keep es

tested : all_keep actions ≡ true
tested = refl

keeps_at : (es : List Effect) (n : ℕ) → all_keep es ≡ true → keeps_proofs (effect_or (slice_get es n)) ≡ true
keeps_at [] n e = refl
keeps_at (x ∷ es) zero e = (both e).0
keeps_at (x ∷ es) (suc n) e = keeps_at es n (both e).1

proofs_takes : (n : ℕ) → are_of_proofs (signatures.action n).leaves ≡ true → are_of_proofs (signatures.action n).takes ≡ true
proofs_takes n e = go (are_of_proofs (signatures.action n).leaves) e (keeps_at actions n tested)
  where
    go : (b : Bool) → b ≡ true → (not b || are_of_proofs (signatures.action n).takes) ≡ true → are_of_proofs (signatures.action n).takes ≡ true
    go true e f = f
    go false e f = absurd (cc)

-- what fits up to values of these kinds begins with such
pub proofs_before : (items : List Item) (k end : List ℕ) → kinds signatures items k ≡ Some end → are_of_proofs end ≡ true → are_of_proofs k ≡ true
proofs_before [] k end e o = let q : k ≡ end = cc in rw q o
proofs_before (Word t ∷ items) k end e o = (both (proofs_before items (signatures.word (group t.class) ∷ k) end e o)).1
proofs_before (Do n ∷ items) k end e o =
    let s = some_left (λ r. kinds signatures items ((signatures.action n).leaves ++ r)) (strip (signatures.action n).takes k) end e in
    let p = proofs_parts (signatures.action n).leaves s.0 (proofs_before items ((signatures.action n).leaves ++ s.0) end s.2 o) in
    rw (strip_is (signatures.action n).takes k s.0 s.1) (proofs_append (signatures.action n).takes s.0 (proofs_takes n p.0) p.1)

pub word_of_proofs : (items : List Item) (c : ℕ) (k end : List ℕ) → kinds signatures items (c ∷ k) ≡ Some end → are_of_proofs end ≡ true → stands proof_kinds c ≡ true
word_of_proofs items c k end e o = (both (proofs_before items (c ∷ k) end e o)).0

pub record Fitting (n : ℕ) (items : List Item) (k end : List ℕ) : Type 0 where
  pub below : List ℕ
  pub top : k ≡ (signatures.action n).takes ++ below
  pub on : kinds signatures items ((signatures.action n).leaves ++ below) ≡ Some end
  pub own : are_of_proofs (signatures.action n).leaves ≡ true

pub fitting : (n : ℕ) (items : List Item) (k end : List ℕ) → kinds signatures (Do n ∷ items) k ≡ Some end → are_of_proofs end ≡ true → Fitting n items k end
fitting n items k end e o =
    let s = some_left (λ r. kinds signatures items ((signatures.action n).leaves ++ r)) (strip (signatures.action n).takes k) end e in
    record {
      below = s.0;
      top = strip_is (signatures.action n).takes k s.0 s.1;
      on = s.2;
      own = (proofs_parts (signatures.action n).leaves s.0 (proofs_before items ((signatures.action n).leaves ++ s.0) end s.2 o)).0;
    }

-- Which actions leave values of proofs. Up to the last action of terms they are those of formulas and terms.
abbrev is_proof_number : ℕ → Effect → Bool
is_proof_number n e = nat_le n 104 && (nat_le 84 n || are_own e.leaves)

abbrev all_numbered : ℕ → List Effect → Bool
all_numbered i [] = true
all_numbered i (e ∷ es) = (not (are_of_proofs e.leaves) || is_proof_number i e) && all_numbered (i + 1) es

numbered : all_numbered 0 actions ≡ true
numbered = refl

number_at : (i n : ℕ) (es : List Effect) → all_numbered i es ≡ true → are_of_proofs (effect_or (slice_get es n)).leaves ≡ true → is_proof_number (i + n) (effect_or (slice_get es n)) ≡ true
number_at i n [] e o = absurd (cc)
number_at i zero (x ∷ es) e o = go (are_of_proofs x.leaves) o (both e).0
  where
    go : (b : Bool) → b ≡ true → (not b || is_proof_number i x) ≡ true → is_proof_number (i + 0) x ≡ true
    go true o f = let q : i + 0 ≡ i = omega arith in rw q f
    go false o f = absurd (cc)
number_at i (suc n) (x ∷ es) e o =
    let q : i + suc n ≡ (i + 1) + n = omega arith in
    rw q (number_at (i + 1) n es (both e).1 o)

proof_number : (n : ℕ) → are_of_proofs (signatures.action n).leaves ≡ true → is_proof_number n (signatures.action n) ≡ true
proof_number n o = let q : 0 + n ≡ n = omega arith in rw q at (number_at 0 n actions numbered o)

pub at_most : (n : ℕ) → are_of_proofs (signatures.action n).leaves ≡ true → n ≤ 104
at_most n o = let h : nat_le n 104 ≡ true = (both (proof_number n o)).0 in grind arith

-- the actions of formulas and terms
pub own_action : (n : ℕ) → are_of_proofs (signatures.action n).leaves ≡ true → n ≤ 83 → are_own (signatures.action n).leaves ≡ true
own_action n o l = go (nat_le 84 n) refl (both (proof_number n o)).1
  where
    go : (b : Bool) → nat_le 84 n ≡ b → (b || are_own (signatures.action n).leaves) ≡ true → are_own (signatures.action n).leaves ≡ true
    go true h e = let a : 84 ≤ n = grind arith in absurd (omega (arith, a, l))
    go false h e = e
