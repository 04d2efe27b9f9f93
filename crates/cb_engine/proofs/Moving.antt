use Rattle.std.proofs.Common.{◌≡◌, ℕ, ◌<◌, ◌+◌, zero, suc, Bool, true, false, List, [], ◌∷◌, ◌++◌, refl, ◌⊎◌, inl, inr, eqb, arith, cond}
use Rattle.std.proofs.lemmas.List.{append-nil}
use Rattle.std.specs.Prelude.{Option, Some, None}
use Rattle.cb_engine.specs.declared.Symbol.{Symbol}
use Rattle.cb_engine.specs.declared.Symbol.TheVariants.{Take, Keep, Act, Part, Gives, Then, Line}
use Rattle.cb_engine.specs.declared.Terminal.{Terminal}
use Rattle.cb_engine.specs.declared.Item.{Item}
use Rattle.cb_engine.specs.declared.Item.TheVariants.{Word}
use Rattle.cb_engine.specs.Rules.{Rules, Runs, chosen, admits, Spells, Begins, Hints, Fits, Decides}
use Rattle.cb_engine.specs.Rules.Runs.{ends, goes_on}
use Rattle.cb_engine.specs.Steps.{Move, move, by_other, by_key}
use Rattle.cb_engine.specs.Steps.Move.{AtEnd, NoWay, Moves}
use Rattle.cb_engine.specs.Readings.{weigh, Light}
use Rattle.cb_engine.proofs.Reaching.{Reaches, reaches_take, reaches_keep, reaches_act, reaches_key, reaches_other, reaches_then, fits_key, fits_other, fits_then, take_inv, take_nil, keep_inv, keep_nil, no_way, no_way_nil}

abbrev pub head : List Terminal → Option Terminal
head [] = None
head (t ∷ ts) = Some t

pub chosen_by : {A : Type 0} {x y z : A} (b : Bool) → cond b x y ≡ z → ((b ≡ true) × (x ≡ z)) ⊎ ((b ≡ false) × (y ≡ z))
chosen_by true e = inl (refl, e)
chosen_by false e = inr (refl, e)

pub same_class : (a b : ℕ) → eqb a b ≡ true → a ≡ b
same_class a b e = grind arith

-- what a move does, in terms of what was read
pub record Took (r : Rules) (h : Hints) (start : List Symbol) (taken rest : List Terminal) (written : List Item) (k : List Symbol) : Type 0 where
  pub token : Terminal
  pub more : List Terminal
  pub is : rest ≡ token ∷ more
  pub reaches : Reaches r start (taken ++ token ∷ []) more written k
  pub fits : Fits h [] k

pub record Stayed (r : Rules) (h : Hints) (start : List Symbol) (taken rest : List Terminal) (written : List Item) (k : List Symbol) : Type 0 where
  pub reaches : Reaches r start taken rest written k
  pub fits : Fits h [] k

pub record Halts (r : Rules) (start : List Symbol) (taken rest : List Terminal) : Type 0 where
  pub unspelled : (out : List Item) → Spells r start taken out → ⊥
  pub stops : (t : Terminal) (more : List Terminal) → rest ≡ t ∷ more → Begins r start (taken ++ t ∷ []) → ⊥

abbrev pub After : Rules → Hints → List Symbol → List Terminal → List Terminal → List Item → List Symbol → Move → Type 0
After r h start taken rest written k AtEnd = k ≡ []
After r h start taken rest written k NoWay = Halts r start taken rest
After r h start taken rest written k (Moves true x j) = Took r h start taken rest (written ++ x) j
After r h start taken rest written k (Moves false x j) = Stayed r h start taken rest (written ++ x) j

pub gives_none : {r : Rules} {s : ℕ} {k : List Symbol} {out : List Item} → Runs r true (Gives s ∷ k) [] out → ((a b : ℕ) (j : List Symbol) → k ≡ Then a b ∷ j → ⊥) → ⊥
gives_none (ends e) n = let q = e refl in cc
gives_none (goes_on {a = a} {b = b} {k = j} m) n = n a b j refl

pub gives_stuck : {r : Rules} {w : Bool} {s : ℕ} {k : List Symbol} {t : Terminal} {us : List Terminal} {out : List Item} → Runs r w (Gives s ∷ k) (t ∷ us) out → ((a b : ℕ) (j : List Symbol) → k ≡ Then a b ∷ j → ⊥) → ⊥
gives_stuck (goes_on {a = a} {b = b} {k = j} m) n = n a b j refl

pub then_none : {r : Rules} {a b : ℕ} {k : List Symbol} {out : List Item} → Runs r true (Then a b ∷ k) [] out → ⊥
then_none (ends e) = let q = e refl in cc

pub then_stuck : {r : Rules} {w : Bool} {a b : ℕ} {k : List Symbol} {t : Terminal} {us : List Terminal} {out : List Item} → Runs r w (Then a b ∷ k) (t ∷ us) out → ⊥
then_stuck m = elim m [ ]

pub blank_none : {r : Rules} {l0 l1 : ℕ} {l2 : Bool} {k : List Symbol} {out : List Item} → Runs r true (Line l0 l1 l2 ∷ k) [] out → ⊥
blank_none (ends e) = let q = e refl in cc

pub blank_stuck : {r : Rules} {w : Bool} {l0 l1 : ℕ} {l2 : Bool} {k : List Symbol} {t : Terminal} {us : List Terminal} {out : List Item} → Runs r w (Line l0 l1 l2 ∷ k) (t ∷ us) out → ⊥
blank_stuck m = elim m [ ]

-- no run of what is left means that the reading halts
pub halts : (r : Rules) (start : List Symbol) (taken rest : List Terminal) (written : List Item) (k : List Symbol) → Reaches r start taken rest written k →
    ((out : List Item) → Spells r k [] out → ⊥) → ((t : Terminal) (us : List Terminal) (out : List Item) → head rest ≡ Some t → Runs r false k (t ∷ us) out → ⊥) → Halts r start taken rest
halts r start taken rest written k q none stuck = record {
  unspelled = λ out m. let l = q.ended out m in none l.0 l.2;
  stops = λ t more e b. let l = q.next false t [] more b.0 e b.1 in stuck t [] l.0 (rw e refl) l.2;
}

module _ (r : Rules) (h : Hints) (d : Decides r h) (start : List Symbol) where
  abbrev Ready : List Terminal → List Terminal → List Item → List Symbol → Type 0
  Ready taken rest written k = Reaches r start taken rest written k × Fits h [] k

  after_take : (taken : List Terminal) (t : Terminal) (rest : List Terminal) (written : List Item) (c : ℕ) (k : List Symbol) → Ready taken (t ∷ rest) written (Take c ∷ k) → (b : Bool) → admits c t.class ≡ b → After r h start taken (t ∷ rest) written (Take c ∷ k) (cond b (Moves true [] k) NoWay)
  after_take taken t rest written c k q true e =
      record {
        token = t;
        more = rest;
        is = refl;
        reaches = rw append-nil (reaches_take r h d start taken rest written t c k e q.0);
        fits = q.1;
      }
  after_take taken t rest written c k q false e =
      halts r start taken (t ∷ rest) written (Take c ∷ k) q.0 (λ out m. take_nil m)
      (λ u us out g m. let s : t ≡ u = cc in let v = (take_inv m).0 in let w : admits c u.class ≡ false = rw s at e in cc)

  after_keep : (taken : List Terminal) (t : Terminal) (rest : List Terminal) (written : List Item) (c : ℕ) (k : List Symbol) → Ready taken (t ∷ rest) written (Keep c ∷ k) → (b : Bool) → admits c t.class ≡ b → After r h start taken (t ∷ rest) written (Keep c ∷ k) (cond b (Moves true (Word t ∷ []) k) NoWay)
  after_keep taken t rest written c k q true e =
      record {
        token = t;
        more = rest;
        is = refl;
        reaches = reaches_keep r h d start taken rest written t c k e q.0;
        fits = q.1;
      }
  after_keep taken t rest written c k q false e =
      halts r start taken (t ∷ rest) written (Keep c ∷ k) q.0 (λ out m. keep_nil m)
      (λ u us out g m. let s : t ≡ u = cc in let v = (keep_inv m).0 in let w : admits c u.class ≡ false = rw s at e in cc)

  after_other : (taken rest : List Terminal) (written : List Item) (n : ℕ) (k : List Symbol) → Ready taken rest written (Part n ∷ k) → ((t : Terminal) (more : List Terminal) → rest ≡ t ∷ more → r.keyed n t.class ≡ None) → (o : Option (List Symbol)) → r.otherwise n ≡ o → After r h start taken rest written (Part n ∷ k) (by_other o k)
  after_other taken rest written n k q e None g =
      halts r start taken rest written (Part n ∷ k) q.0 (λ out m. no_way_nil r h d n k g m)
      (λ t us out p m. no_way r h d n t k us (at_head rest t p e) g m)
    where
      at_head : (rest : List Terminal) (t : Terminal) → head rest ≡ Some t → ((t : Terminal) (more : List Terminal) → rest ≡ t ∷ more → r.keyed n t.class ≡ None) → r.keyed n t.class ≡ None
      at_head [] t p e = absurd (cc)
      at_head (u ∷ us) t p e = let s : u ≡ t = cc in e t us (rw s refl)
  after_other taken rest written n k q e (Some body) g = record {
    reaches = rw append-nil (reaches_other r h d start taken rest written n body k e g q.0);
    fits = fits_other r h d n k body g q.1;
  }

  after_key : (taken : List Terminal) (t : Terminal) (rest : List Terminal) (written : List Item) (n : ℕ) (k : List Symbol) → Ready taken (t ∷ rest) written (Part n ∷ k) → (o : Option (Bool × List Symbol)) → r.keyed n t.class ≡ o → After r h start taken (t ∷ rest) written (Part n ∷ k) (by_key o t (by_other (r.otherwise n) k) k)
  after_key taken t rest written n k q None e =
      after_other taken (t ∷ rest) written n k q (λ u more p. let s : t ≡ u = cc in rw (← s) e) (r.otherwise n) refl
  after_key taken t rest written n k q (Some alt) e = record {
    token = t;
    more = rest;
    is = refl;
    reaches = reaches_key r h d start taken rest written n t alt k e q.1 q.0;
    fits = fits_key r h d n t.class k alt e q.1;
  }

  pub after : (taken rest : List Terminal) (written : List Item) (k : List Symbol) → Ready taken rest written k → After r h start taken rest written k (move r (head rest) k)
  after taken rest written [] q = refl
  after taken [] written (Take c ∷ k) q = halts r start taken [] written (Take c ∷ k) q.0 (λ out m. take_nil m) (λ u us out g m. cc)
  after taken (t ∷ rest) written (Take c ∷ k) q = after_take taken t rest written c k q (admits c t.class) refl
  after taken [] written (Keep c ∷ k) q = halts r start taken [] written (Keep c ∷ k) q.0 (λ out m. keep_nil m) (λ u us out g m. cc)
  after taken (t ∷ rest) written (Keep c ∷ k) q = after_keep taken t rest written c k q (admits c t.class) refl
  after taken rest written (Act a ∷ k) q = record { reaches = reaches_act r h d start taken rest written a k q.0; fits = q.1 }
  after taken [] written (Part n ∷ k) q = after_other taken [] written n k q (λ t more e. absurd (cc)) (r.otherwise n) refl
  after taken (t ∷ rest) written (Part n ∷ k) q = after_key taken t rest written n k q (r.keyed n t.class) refl
  after taken rest written (Gives s ∷ Then a b ∷ k) q = record {
    reaches = rw append-nil (reaches_then r h d start taken rest written s a b k q.0);
    fits = fits_then r h d s a b k q.1;
  }
  after taken rest written (Gives s ∷ k) q =
      halts r start taken rest written (Gives s ∷ k) q.0 (λ out m. gives_none m (λ a b j e. cc)) (λ u us out g m. gives_stuck m (λ a b j e. cc))
  after taken rest written (Then a b ∷ k) q =
      halts r start taken rest written (Then a b ∷ k) q.0 (λ out m. then_none m) (λ u us out g m. then_stuck m)
  after taken rest written (Line l0 l1 l2 ∷ k) q =
      halts r start taken rest written (Line l0 l1 l2 ∷ k) q.0 (λ out m. blank_none m) (λ u us out g m. blank_stuck m)

-- each step takes a token or makes what is left lighter
abbrev pub Lighter : (ℕ → ℕ) → List Symbol → Move → Type 0
Lighter wt k AtEnd = Unit {0}
Lighter wt k NoWay = Unit {0}
Lighter wt k (Moves true x j) = weigh wt j < weigh wt k + 1000
Lighter wt k (Moves false x j) = weigh wt j < weigh wt k

pub weigh-append : (wt : ℕ → ℕ) (a b : List Symbol) → weigh wt (a ++ b) ≡ weigh wt a + weigh wt b
weigh-append wt [] b = omega arith
weigh-append wt (Take c ∷ a) b = weigh-append wt a b
weigh-append wt (Keep c ∷ a) b = weigh-append wt a b
weigh-append wt (Act c ∷ a) b = omega (arith, weigh-append wt a b)
weigh-append wt (Part n ∷ a) b = omega (arith, weigh-append wt a b)
weigh-append wt (Gives s ∷ a) b = weigh-append wt a b
weigh-append wt (Line l0 l1 l2 ∷ a) b = weigh-append wt a b
weigh-append wt (Then x y ∷ a) b = omega (arith, weigh-append wt a b)

module _ (r : Rules) (wt : ℕ → ℕ) (light : Light r wt) where
  lighter_if : (b : Bool) (x : List Item) (a k : List Symbol) → weigh wt k < weigh wt a + 1000 → Lighter wt a (cond b (Moves true x k) NoWay)
  lighter_if true x a k e = e
  lighter_if false x a k e = tt

  lighter_other : (n : ℕ) (k : List Symbol) (o : Option (List Symbol)) → r.otherwise n ≡ o → Lighter wt (Part n ∷ k) (by_other o k)
  lighter_other n k None e = tt
  lighter_other n k (Some body) e = omega (arith, light.other n body e, weigh-append wt body k)

  lighter_key : (n : ℕ) (t : Terminal) (k : List Symbol) (o : Option (Bool × List Symbol)) → r.keyed n t.class ≡ o → Lighter wt (Part n ∷ k) (by_key o t (by_other (r.otherwise n) k) k)
  lighter_key n t k None e = lighter_other n k (r.otherwise n) refl
  lighter_key n t k (Some alt) e = omega (arith, light.key n t.class alt e, weigh-append wt alt.1 k)

  lighter_then : (s a b : ℕ) (k : List Symbol) → wt (chosen a b s) + weigh wt k < 1 + wt a + wt b + weigh wt k
  lighter_then zero a b k = omega arith
  lighter_then (suc _) a b k = omega arith

  pub lighter : (next : Option Terminal) (k : List Symbol) → Lighter wt k (move r next k)
  lighter next [] = tt
  lighter None (Take c ∷ k) = tt
  lighter (Some t) (Take c ∷ k) = lighter_if (admits c t.class) [] (Take c ∷ k) k (omega arith)
  lighter None (Keep c ∷ k) = tt
  lighter (Some t) (Keep c ∷ k) = lighter_if (admits c t.class) (Word t ∷ []) (Keep c ∷ k) k (omega arith)
  lighter next (Act a ∷ k) = omega arith
  lighter None (Part n ∷ k) = lighter_other n k (r.otherwise n) refl
  lighter (Some t) (Part n ∷ k) = lighter_key n t k (r.keyed n t.class) refl
  lighter next (Gives s ∷ Then a b ∷ k) = lighter_then s a b k
  lighter next (Gives s ∷ k) = tt
  lighter next (Then a b ∷ k) = tt
  lighter next (Line l0 l1 l2 ∷ k) = tt
