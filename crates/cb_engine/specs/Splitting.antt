-- What symbols spell one after the other, and what they spell again and again.
use Rattle.std.specs.Prelude.{◌≡◌, ◌<◌, ◌+◌, Bool, true, false, List, [], ◌∷◌, ◌++◌, refl, length}
use Rattle.std.proofs.Common.{arith, subst, sym, ap, append_assoc}
use Rattle.std.proofs.lemmas.List.{length-append}
use Rattle.cb_engine.specs.declared.Symbol.{Symbol}
use Rattle.cb_engine.specs.declared.Symbol.TheVariants.{Take, Keep, Act, Part, Gives, Then}
use Rattle.cb_engine.specs.declared.Terminal.{Terminal}
use Rattle.cb_engine.specs.declared.Item.{Item}
use Rattle.cb_engine.specs.declared.Item.TheVariants.{Word, Do}
use Rattle.cb_engine.specs.Rules.{Rules, Runs, chosen, kept}
use Rattle.cb_engine.specs.Rules.Runs.{ends, takes, keeps, acts, keys, others, goes_on}
use Rattle.cb_engine.specs.Lines.{NoThen}

-- whether the symbols begin with a token
abbrev pub with_token : List Symbol → Bool
with_token [] = false
with_token (Take c ∷ u) = true
with_token (Keep c ∷ u) = true
with_token (_ ∷ u) = false

-- what u spells, before what k spells; and so it does before everything
pub record Split (r : Rules) (u k : List Symbol) (ts : List Terminal) (out : List Item) : Type 0 where
  pub front : List Terminal
  pub back : List Terminal
  pub early : List Item
  pub late : List Item
  pub tokens : ts ≡ front ++ back
  pub items : out ≡ early ++ late
  pub rest : Runs r true k back late
  pub again : (j : List Symbol) (us : List Terminal) (o : List Item) → Runs r true j us o → Runs r true (u ++ j) (front ++ us) (early ++ o)
  pub token : with_token u ≡ true → length back < length ts

shorter : (t : Terminal) (ts front back : List Terminal) → ts ≡ front ++ back → length back < length (t ∷ ts)
shorter t ts front back e =
    let q : length ts ≡ length front + length back = rw e (length-append front back) in
    omega arith

pub split : {r : Rules} {l : List Symbol} {ts : List Terminal} {out : List Item} → Runs r true l ts out → (u k : List Symbol) → NoThen k → l ≡ u ++ k → Split r u k ts out
split {r = r} {ts = ts} {out = out} m [] k free e = at_start r k ts out (rw e at m)
  where
    at_start : (r : Rules) (k : List Symbol) (ts : List Terminal) (out : List Item) → Runs r true k ts out → Split r [] k ts out
    at_start r k ts out m = record { front = []; back = ts; early = []; late = out; tokens = refl; items = refl; rest = m; again = λ j us o n. n; token = λ f. absurd (cc) }
split (ends g) (s ∷ u) k free e = let q = g refl in absurd (cc)
split {r = r} (takes {c = c} {k = j} {t = t} {ts = ts} {out = out} a m) (s ∷ u) k free e =
    let p : s ≡ Take c = cc in
    let q = split m u k free (cc) in
    subst (λ (x : Symbol). Split r (x ∷ u) k (t ∷ ts) out) (sym p) (record {
      front = t ∷ q.front;
      back = q.back;
      early = q.early;
      late = q.late;
      tokens = ap (λ (y : List Terminal). t ∷ y) q.tokens;
      items = q.items;
      rest = q.rest;
      again = λ j us o n. takes a (q.again j us o n);
      token = λ f. shorter t ts q.front q.back q.tokens;
    })
split {r = r} (keeps {c = c} {k = j} {t = t} {ts = ts} {out = out} a m) (s ∷ u) k free e =
    let p : s ≡ Keep c = cc in
    let q = split m u k free (cc) in
    subst (λ (x : Symbol). Split r (x ∷ u) k (t ∷ ts) (Word t ∷ out)) (sym p) (record {
      front = t ∷ q.front;
      back = q.back;
      early = Word t ∷ q.early;
      late = q.late;
      tokens = ap (λ (y : List Terminal). t ∷ y) q.tokens;
      items = ap (λ (y : List Item). Word t ∷ y) q.items;
      rest = q.rest;
      again = λ j us o n. keeps a (q.again j us o n);
      token = λ f. shorter t ts q.front q.back q.tokens;
    })
split {r = r} (acts {a = a} {k = j} {ts = ts} {out = out} m) (s ∷ u) k free e =
    let p : s ≡ Act a = cc in
    let q = split m u k free (cc) in
    subst (λ (x : Symbol). Split r (x ∷ u) k ts (Do a ∷ out)) (sym p) (record {
      front = q.front;
      back = q.back;
      early = Do a ∷ q.early;
      late = q.late;
      tokens = q.tokens;
      items = ap (λ (y : List Item). Do a ∷ y) q.items;
      rest = q.rest;
      again = λ j us o n. acts (q.again j us o n);
      token = λ f. absurd (cc);
    })
split {r = r} (keys {n = n} {k = j} {t = t} {ts = ts} {out = out} keep b g m) (s ∷ u) k free e =
    let p : s ≡ Part n = cc in
    let v : j ≡ u ++ k = cc in
    let q = split m (b ++ u) k free (rw v (sym (append_assoc b u k))) in
    subst (λ (x : Symbol). Split r (x ∷ u) k (t ∷ ts) (kept keep t out)) (sym p) (record {
      front = t ∷ q.front;
      back = q.back;
      early = kept keep t q.early;
      late = q.late;
      tokens = ap (λ (y : List Terminal). t ∷ y) q.tokens;
      items = kept_both keep t out q.early q.late q.items;
      rest = q.rest;
      again = λ j us o n. rw (kept_before keep t q.early o) (keys keep b g (rw append_assoc at (q.again j us o n)));
      token = λ f. absurd (cc);
    })
  where
    kept_both : (keep : Bool) (t : Terminal) (out early late : List Item) → out ≡ early ++ late → kept keep t out ≡ kept keep t early ++ late
    kept_both true t out early late e = ap (λ (y : List Item). Word t ∷ y) e
    kept_both false t out early late e = e

    kept_before : (keep : Bool) (t : Terminal) (early o : List Item) → kept keep t early ++ o ≡ kept keep t (early ++ o)
    kept_before true t early o = refl
    kept_before false t early o = refl
split {r = r} (others {n = n} {k = j} {ts = ts} {out = out} b g m) (s ∷ u) k free e =
    let p : s ≡ Part n = cc in
    let v : j ≡ u ++ k = cc in
    let q = split m (b ++ u) k free (rw v (sym (append_assoc b u k))) in
    subst (λ (x : Symbol). Split r (x ∷ u) k ts out) (sym p) (record {
      front = q.front;
      back = q.back;
      early = q.early;
      late = q.late;
      tokens = q.tokens;
      items = q.items;
      rest = q.rest;
      again = λ j us o n. others b g (rw append_assoc at (q.again j us o n));
      token = λ f. absurd (cc);
    })
split (goes_on {s = x} {a = a} {b = b} {k = j} m) (s ∷ []) k free e = absurd (free a b j (cc))
split {r = r} (goes_on {s = x} {a = a} {b = b} {k = j} {ts = ts} {out = out} m) (s ∷ z ∷ u) k free e =
    let p : s ≡ Gives x = cc in
    let w : z ≡ Then a b = cc in
    let q = split m (Part (chosen a b x) ∷ u) k free (cc) in
    subst (λ (y : Symbol). Split r (y ∷ z ∷ u) k ts out) (sym p) (subst (λ (y : Symbol). Split r (Gives x ∷ y ∷ u) k ts out) (sym w) (record {
      front = q.front;
      back = q.back;
      early = q.early;
      late = q.late;
      tokens = q.tokens;
      items = q.items;
      rest = q.rest;
      again = λ j us o n. goes_on (q.again j us o n);
      token = λ f. absurd (cc);
    }))

joined : {r : Rules} {j : List Symbol} {ts us : List Terminal} {out o : List Item} → ts ≡ us → out ≡ o → Runs r true j us o → Runs r true j ts out
joined e f m = rw (e, f) m

-- together again, with other symbols behind
pub rejoined : {r : Rules} {u k : List Symbol} {ts : List Terminal} {out : List Item} (s : Split r u k ts out) (j : List Symbol) → Runs r true j s.back s.late → Runs r true (u ++ j) ts out
rejoined s j m = joined s.tokens s.items (s.again j s.back s.late m)

-- what stands behind may be replaced by what spells the same
pub behind : {r : Rules} (u k j : List Symbol) → NoThen k → ((ts : List Terminal) (out : List Item) → Runs r true k ts out → Runs r true j ts out) → (ts : List Terminal) (out : List Item) → Runs r true (u ++ k) ts out → Runs r true (u ++ j) ts out
behind u k j free f ts out m =
    let q = split m u k free refl in
    rejoined q j (f q.back q.late q.rest)
