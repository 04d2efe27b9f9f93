-- Lists of numbers: who calls which machine, and the order of controllers.
use Rattle.std.proofs.Common.{◌≡◌, ℕ, zero, suc, ◌+◌, ◌<◌, ◌==◌, nat_lt, Bool, true, false, not, ◌||◌, ◌&&◌, List, [], ◌∷◌, ◌++◌, flat_map, length, Option, Some, None, refl, sym, ap, ◌∙◌, subst, true≢false, if◌then◌else◌, arith, slice_get, append_assoc, eq-eqb}
use Rattle.std.proofs.lemmas.Bool.{eqb-true, ltb-true, ltb-false}
use Rattle.std.proofs.lemmas.Option.{same_Some}
use Rattle.cb_lex.specs.declared.raw.name.RawName.{RawName}
use Rattle.cb_lex.specs.declared.raw.text.RawController.{RawController}
use Rattle.cb_lex.specs.declared.raw.text.RawMachine.{RawMachine}
use Rattle.cb_spec.specs.States.{IsAt}
use Rattle.cb_spec.specs.Typed.{NumbersDiffer, AllBelow}
use Rattle.cb_forms.specs.Find.{found, is_in, with_number}
use Rattle.cb_judge.specs.Meanings.{Names}
use Rattle.cb_types.specs.Declares.{next, machine_number, with_owner, sees_from, variables_of}
use Rattle.cb_types.specs.MachineFaults.{Seen, with_seen}
use Rattle.cb_typing.specs.WrittenText.{FitsNumbers}
use Rattle.cb_typing.proofs.Clean.{Clean, not_bad, is_good}
use Rattle.cb_typing.proofs.Entries.{next_is}
use Rattle.cb_text_laws.specs.TextNames.{controller_number, order_from, own_machines}
use Rattle.cb_text_laws.specs.UseFaults.{owned_fault, machine_list_fault, machine_lists_fault, owned_from, has_names, unowned_fault, unlisted_fault}

-- ---- lists

pub in_at : (k : ℕ) (ks : List ℕ) → is_in k ks ≡ true → (i : ℕ) × IsAt ks i k
in_at k [] e = absurd (true≢false (sym e))
in_at k (j ∷ ks) e = by (k == j) refl e (in_at k ks)
  where
    by : (b : Bool) → (k == j) ≡ b → (b || is_in k ks) ≡ true → (is_in k ks ≡ true → (i : ℕ) × IsAt ks i k) → (i : ℕ) × IsAt (j ∷ ks) i k
    by true q e r = (0, ap Some (sym (eqb-true k j q)))
    by false q e r = let w = r e in (suc w.0, w.1)

pub at_in : (k : ℕ) (ks : List ℕ) (i : ℕ) → IsAt ks i k → is_in k ks ≡ true
at_in k [] i e = let no : ⊥ = cc in absurd no
at_in k (j ∷ ks) zero e = let q = eq-eqb k j (sym (same_Some j k e)) in rw q refl
at_in k (j ∷ ks) (suc i) e = by (k == j) (at_in k ks i e)
  where
    by : (b : Bool) → is_in k ks ≡ true → (b || is_in k ks) ≡ true
    by true r = refl
    by false r = r

in_parts : (k : ℕ) (a b : List ℕ) → is_in k (a ++ b) ≡ (is_in k a || is_in k b)
in_parts k [] b = refl
in_parts k (j ∷ a) b = by (k == j) (in_parts k a b)
  where
    by : (t : Bool) → is_in k (a ++ b) ≡ (is_in k a || is_in k b) → (t || is_in k (a ++ b)) ≡ ((t || is_in k a) || is_in k b)
    by true r = refl
    by false r = r

-- no number stands in what follows it
abbrev pub Fresh : List ℕ → Type 0
Fresh [] = Unit {0}
Fresh (k ∷ ks) = (is_in k ks ≡ false) × Fresh ks

fresh_more : (ks : List ℕ) (k : ℕ) → Fresh ks → is_in k ks ≡ false → Fresh (ks ++ k ∷ [])
fresh_more [] k f e = (refl, tt)
fresh_more (j ∷ ks) k f e = by (λ e. fresh_more ks k f.1 e) (k == j) refl e
  where
    other : (k == j) ≡ false → (j == k) ≡ false
    other q = at (j == k) refl
      where
        at : (b : Bool) → (j == k) ≡ b → b ≡ false
        at true p = absurd (true≢false (sym (eq-eqb k j (sym (eqb-true j k p))) ∙ q))
        at false p = refl

    by : (is_in k ks ≡ false → Fresh (ks ++ k ∷ [])) → (b : Bool) → (k == j) ≡ b → (b || is_in k ks) ≡ false → Fresh ((j ∷ ks) ++ k ∷ [])
    by r true q e = absurd (true≢false e)
    by r false q e =
        let z : is_in j (ks ++ k ∷ []) ≡ false = in_parts j ks (k ∷ []) ∙ rw (f.0, other q) refl in
        (z, r e)

with_fresh : (k : ℕ) (ks : List ℕ) → Fresh ks → Fresh (with_number k ks)
with_fresh k ks f = by (is_in k ks) refl
  where
    by : (b : Bool) → is_in k ks ≡ b → Fresh (if b then ks else ks ++ k ∷ [])
    by true e = f
    by false e = fresh_more ks k f e

owner_fresh : (o : Option ℕ) (ks : List ℕ) → Fresh ks → Fresh (with_owner o ks)
owner_fresh None ks f = f
owner_fresh (Some k) ks f = with_fresh k ks f

pub fresh_different : (ks : List ℕ) → Fresh ks → NumbersDiffer ks
fresh_different [] f i j k a b = let no : ⊥ = cc in absurd no
fresh_different (h ∷ ks) f zero zero k a b = refl
fresh_different (h ∷ ks) f zero (suc j) k a b =
    let q : h ≡ k = same_Some h k a in
    absurd (true≢false (sym (at_in k ks j b) ∙ ap (λ h. is_in h ks) (sym q) ∙ f.0))
fresh_different (h ∷ ks) f (suc i) zero k a b =
    let q : h ≡ k = same_Some h k b in
    absurd (true≢false (sym (at_in k ks i a) ∙ ap (λ h. is_in h ks) (sym q) ∙ f.0))
fresh_different (h ∷ ks) f (suc i) (suc j) k a b = ap suc (fresh_different ks f.1 i j k a b)

-- ---- all numbers below a bound, each once

-- how many are below the bound
abbrev less : ℕ → List ℕ → ℕ
less n [] = 0
less n (k ∷ ks) = (if nat_lt k n then 1 else 0) + less n ks

abbrev times : ℕ → List ℕ → ℕ
times n [] = 0
times n (k ∷ ks) = (if n == k then 1 else 0) + times n ks

times_in : (n : ℕ) (ks : List ℕ) → Fresh ks → is_in n ks ≡ true → times n ks ≡ 1
times_in n [] f e = absurd (true≢false (sym e))
times_in n (k ∷ ks) f e = by (n == k) refl e (times_in n ks f.1)
  where
    none : (ks : List ℕ) → is_in n ks ≡ false → times n ks ≡ 0
    none [] e = refl
    none (j ∷ ks) e = at (n == j) e (none ks)
      where
        at : (b : Bool) → (b || is_in n ks) ≡ false → (is_in n ks ≡ false → times n ks ≡ 0) → (if b then 1 else 0) + times n ks ≡ 0
        at true e r = absurd (true≢false e)
        at false e r = omega (arith, r e)

    by : (b : Bool) → (n == k) ≡ b → (b || is_in n ks) ≡ true → (is_in n ks ≡ true → times n ks ≡ 1) → (if b then 1 else 0) + times n ks ≡ 1
    by true q e r =
        let i : n ≡ k = eqb-true n k q in
        let z = none ks (ap (λ n. is_in n ks) i ∙ f.0) in
        omega (arith, z)
    by false q e r = omega (arith, r e)

less_next : (n : ℕ) (ks : List ℕ) → less (suc n) ks ≡ less n ks + times n ks
less_next n [] = refl
less_next n (k ∷ ks) = let r = less_next n ks in let o = one (nat_lt k (suc n)) refl (nat_lt k n) refl (n == k) refl in omega (arith, r, o)
  where
    one : (a : Bool) → nat_lt k (suc n) ≡ a → (b : Bool) → nat_lt k n ≡ b → (c : Bool) → (n == k) ≡ c → (if a then 1 else 0) ≡ (if b then 1 else 0) + (if c then 1 else 0)
    one true p true q true r = let a = ltb-true k n q in let e = eqb-true n k r in absurd (omega (arith, a, e))
    one true p true q false r = refl
    one true p false q true r = refl
    one true p false q false r =
        let a = ltb-true k (suc n) p in
        let b = ltb-false k n q in
        let e : n ≡ k = omega (arith, a, b) in
        absurd (true≢false (sym (eq-eqb n k e) ∙ r))
    one false p true q c r = let a = ltb-false k (suc n) p in let b = ltb-true k n q in absurd (omega (arith, a, b))
    one false p false q true r = let a = ltb-false k (suc n) p in let e = eqb-true n k r in absurd (omega (arith, a, e))
    one false p false q false r = refl

less_none : (ks : List ℕ) → less 0 ks ≡ 0
less_none [] = refl
less_none (k ∷ ks) = by (nat_lt k 0) refl (less_none ks)
  where
    by : (b : Bool) → nat_lt k 0 ≡ b → less 0 ks ≡ 0 → (if b then 1 else 0) + less 0 ks ≡ 0
    by true q r = let a = ltb-true k 0 q in absurd (omega (arith, a))
    by false q r = omega (arith, r)

less_all : (n : ℕ) (ks : List ℕ) → AllBelow n ks → less n ks ≡ length ks
less_all n [] b = refl
less_all n (k ∷ ks) b =
    let r = less_all n ks (λ i j e. b (suc i) j e) in
    let l = b 0 k refl in
    let q : nat_lt k n ≡ true = below k n l in
    rw q (omega (arith, r))
  where
    below : (k n : ℕ) → k < n → nat_lt k n ≡ true
    below k n l = at (nat_lt k n) refl
      where
        at : (t : Bool) → nat_lt k n ≡ t → t ≡ true
        at true q = refl
        at false q = let m = ltb-false k n q in absurd (omega (arith, l, m))

less_is : (n : ℕ) (ks : List ℕ) → Fresh ks → ((k : ℕ) → k < n → is_in k ks ≡ true) → less n ks ≡ n
less_is zero ks f h = less_none ks
less_is (suc n) ks f h =
    let r = less_is n ks f (λ k l. h k (omega (arith, l))) in
    let u = times_in n ks f (h n (omega arith)) in
    let s = less_next n ks in
    omega (arith, r, u, s)

pub all_once : (n : ℕ) (ks : List ℕ) → Fresh ks → AllBelow n ks → ((k : ℕ) → k < n → is_in k ks ≡ true) → length ks ≡ n
all_once n ks f b h = let l = less_all n ks b in let m = less_is n ks f h in omega (arith, l, m)

-- ---- machines

module _ (names : Names) where
  sees_fresh : (xs : List RawName) (ks : List ℕ) → Fresh ks → Fresh (sees_from names ks xs)
  sees_fresh [] ks f = f
  sees_fresh (x ∷ xs) ks f = sees_fresh xs (with_owner (machine_number (found x.text names)) ks) (owner_fresh (machine_number (found x.text names)) ks f)

  pub owned_fresh : (cs : List RawController) (ks : List ℕ) → Fresh ks → Fresh (owned_from names ks cs)
  owned_fresh [] ks f = f
  owned_fresh (c ∷ cs) ks f = owned_fresh cs (sees_from names ks c.machines) (sees_fresh c.machines ks f)

  pub order_fresh : (xs : List RawName) (ks : List ℕ) → Fresh ks → Fresh (order_from names ks xs)
  order_fresh [] ks f = f
  order_fresh (x ∷ xs) ks f = order_fresh xs (with_owner (controller_number (found x.text names)) ks) (owner_fresh (controller_number (found x.text names)) ks f)

  new_owner : (k : ℕ) (ks : List ℕ) → is_in k ks ≡ false → with_number k ks ≡ ks ++ k ∷ []
  new_owner k ks e = rw e refl

  not_in : (k : ℕ) (a b : List ℕ) → is_in k (a ++ b) ≡ false → is_in k b ≡ false
  not_in k a b e = by (is_in k a) (sym (in_parts k a b) ∙ e)
    where
      by : (t : Bool) → (t || is_in k b) ≡ false → is_in k b ≡ false
      by true e = absurd (true≢false e)
      by false e = e

  -- the machines of a list stand after those that were there
  sees_after : (xs : List RawName) (seen : Seen) (a b : List ℕ) → Clean (machine_list_fault names seen (a ++ b) xs) → sees_from names (a ++ b) xs ≡ a ++ sees_from names b xs
  sees_after [] seen a b h = refl
  sees_after (x ∷ xs) seen a b h = by (machine_number (found x.text names)) h.0.1.1 (λ b h. sees_after xs (with_seen x seen) a b h) h.1
    where
      by : (o : Option ℕ) → Clean (owned_fault (a ++ b) o x.place) → ((b : List ℕ) → Clean (machine_list_fault names (with_seen x seen) (a ++ b) xs) → sees_from names (a ++ b) xs ≡ a ++ sees_from names b xs) →
          Clean (machine_list_fault names (with_seen x seen) (with_owner o (a ++ b)) xs) → sees_from names (with_owner o (a ++ b)) xs ≡ a ++ sees_from names (with_owner o b) xs
      by None q r k = r b k
      by (Some n) q r k =
          let e : is_in n (a ++ b) ≡ false = not_bad (is_in n (a ++ b)) 20 x.place q in
          let f : is_in n b ≡ false = not_in n a b e in
          let s : with_number n (a ++ b) ≡ a ++ with_number n b = new_owner n (a ++ b) e ∙ append_assoc a b (n ∷ []) ∙ ap (λ l. a ++ l) (sym (new_owner n b f)) in
          ap (λ l. sees_from names l xs) s ∙ r (with_number n b) (subst (λ l. Clean (machine_list_fault names (with_seen x seen) l xs)) s k)

  nothing : (ks : List ℕ) → ks ++ [] ≡ ks
  nothing [] = refl
  nothing (k ∷ ks) = ap (λ l. k ∷ l) (nothing ks)

  -- the machines that controllers call are those of each, one after another
  pub owned_is : (cs : List RawController) (ks : List ℕ) → Clean (machine_lists_fault names ks cs) → owned_from names ks cs ≡ ks ++ flat_map (own_machines names) cs
  owned_is [] ks h = sym (nothing ks)
  owned_is (c ∷ cs) ks h =
      let s : sees_from names ks c.machines ≡ ks ++ own_machines names c = ap (λ l. sees_from names l c.machines) (sym (nothing ks)) ∙ sees_after c.machines [] ks [] (subst (λ l. Clean (machine_list_fault names [] l c.machines)) (sym (nothing ks)) h.0) in
      owned_is cs (sees_from names ks c.machines) h.1 ∙ ap (λ l. l ++ flat_map (own_machines names) cs) s ∙ append_assoc ks (own_machines names c) (flat_map (own_machines names) cs)

  -- ---- bounds

  below_more : (n : ℕ) (o : Option ℕ) (ks : List ℕ) → ((k : ℕ) → o ≡ Some k → k < n) → ((k : ℕ) → is_in k ks ≡ true → k < n) → (k : ℕ) → is_in k (with_owner o ks) ≡ true → k < n
  below_more n None ks h b k e = b k e
  below_more n (Some m) ks h b k e = by (is_in m ks) e
    where
      last : (t : Bool) → is_in k ks ≡ t → (t || (k == m || false)) ≡ true → k < n
      last true q e = b k q
      last false q e = at (k == m) refl e
        where
          at : (s : Bool) → (k == m) ≡ s → (s || false) ≡ true → k < n
          at true p e = subst (λ z. z < n) (sym (eqb-true k m p)) (h m refl)
          at false p e = absurd (true≢false (sym e))

      by : (t : Bool) → is_in k (if t then ks else ks ++ m ∷ []) ≡ true → k < n
      by true e = b k e
      by false e = last (is_in k ks) refl (sym (in_parts k ks (m ∷ [])) ∙ e)

  pub sees_below : (n : ℕ) → ((x : List ℕ) (k : ℕ) → machine_number (found x names) ≡ Some k → k < n) → (xs : List RawName) (ks : List ℕ) → ((k : ℕ) → is_in k ks ≡ true → k < n) → (k : ℕ) → is_in k (sees_from names ks xs) ≡ true → k < n
  sees_below n h [] ks b = b
  sees_below n h (x ∷ xs) ks b = sees_below n h xs (with_owner (machine_number (found x.text names)) ks) (below_more n (machine_number (found x.text names)) ks (h x.text) b)

  pub order_below : (n : ℕ) → ((x : List ℕ) (k : ℕ) → controller_number (found x names) ≡ Some k → k < n) → (xs : List RawName) (ks : List ℕ) → ((k : ℕ) → is_in k ks ≡ true → k < n) → (k : ℕ) → is_in k (order_from names ks xs) ≡ true → k < n
  order_below n h [] ks b = b
  order_below n h (x ∷ xs) ks b = order_below n h xs (with_owner (controller_number (found x.text names)) ks) (below_more n (controller_number (found x.text names)) ks (h x.text) b)

pub all_below : (n : ℕ) (ks : List ℕ) → ((k : ℕ) → is_in k ks ≡ true → k < n) → AllBelow n ks
all_below n ks h i k e = h k (at_in k ks i e)

-- ---- what is owned and listed

pub machine_owned : (owned : List ℕ) (ms : List RawMachine) (k : ℕ) → FitsNumbers (k + length ms) → Clean (unowned_fault owned k ms) → (i : ℕ) (m : RawMachine) → slice_get ms i ≡ Some m → has_names (variables_of m.state) ≡ true → is_in (k + i) owned ≡ true
machine_owned owned [] k f h i m e v = let no : ⊥ = cc in absurd no
machine_owned owned (n ∷ ms) k f h zero m e v =
    let q : k ≡ k + 0 = omega arith in
    let j : n ≡ m = same_Some n m e in
    let b = not_bad (has_names (variables_of n.state) && not (is_in k owned)) 21 n.name.place h.0 in
    subst (λ o. is_in o owned ≡ true) q (by (has_names (variables_of n.state)) (is_in k owned) (ap (λ (n : RawMachine). has_names (variables_of n.state)) j ∙ v) b)
  where
    by : (a b : Bool) → a ≡ true → (a && not b) ≡ false → b ≡ true
    by true true p q = refl
    by true false p q = absurd (true≢false q)
    by false b p q = absurd (true≢false (sym p))
machine_owned owned (n ∷ ms) k f h (suc i) m e v =
    let s : next k ≡ k + 1 = next_is k (k + length (n ∷ ms)) (omega arith) f in
    let q : next k + i ≡ k + suc i = omega (arith, s) in
    subst (λ o. is_in o owned ≡ true) q (machine_owned owned ms (next k) (omega (arith, f, s)) h.1 i m e v)

pub controller_listed : (order : List ℕ) (cs : List RawController) (k : ℕ) → FitsNumbers (k + length cs) → Clean (unlisted_fault order k cs) → (i : ℕ) → i < length cs → is_in (k + i) order ≡ true
controller_listed order [] k f h i l = absurd (omega (arith, l))
controller_listed order (c ∷ cs) k f h zero l = let q : k ≡ k + 0 = omega arith in subst (λ o. is_in o order ≡ true) q (is_good (is_in k order) 2 c.name.place h.0)
controller_listed order (c ∷ cs) k f h (suc i) l =
    let s : next k ≡ k + 1 = next_is k (k + length (c ∷ cs)) (omega arith) f in
    let q : next k + i ≡ k + suc i = omega (arith, s) in
    subst (λ o. is_in o order ≡ true) q (controller_listed order cs (next k) (omega (arith, f, s)) h.1 i (omega (arith, l)))
