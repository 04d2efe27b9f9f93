use Rattle.std.proofs.Common.{◌≡◌, ℕ, zero, suc, Bool, true, false, List, [], ◌∷◌, ◌++◌, refl, subst, append_assoc, ◌||◌, eqb}
use Rattle.std.specs.Prelude.{Some, None}
use Rattle.cb_engine.specs.declared.Symbol.{Symbol}
use Rattle.cb_engine.specs.declared.Symbol.TheVariants.{Take, Keep, Act, Part, Gives, Then, Line}
use Rattle.cb_engine.specs.declared.Terminal.{Terminal}
use Rattle.cb_engine.specs.declared.Item.{Item}
use Rattle.cb_engine.specs.declared.Item.TheVariants.{Word, Do}
use Rattle.cb_engine.specs.Rules.{Rules, Runs, chosen, kept, group, admits, Spells, Hints, has, Within, picked, firsts, Fits, Decides}
use Rattle.cb_engine.specs.Rules.Runs.{ends, takes, keeps, acts, keys, others, goes_on}

-- What is left to write after front was written.
abbrev pub Left : Rules → Bool → List Symbol → List Terminal → List Item → List Item → Type 0
Left r w k ts front out = (rest : List Item) × (out ≡ front ++ rest) × Runs r w k ts rest

-- inversions
pub take_inv : {r : Rules} {w : Bool} {c : ℕ} {t : Terminal} {k : List Symbol} {ts : List Terminal} {out : List Item} → Runs r w (Take c ∷ k) (t ∷ ts) out → (admits c t.class ≡ true) × Runs r w k ts out
take_inv (takes e m) = (e, m)

pub take_nil : {r : Rules} {c : ℕ} {k : List Symbol} {out : List Item} → Runs r true (Take c ∷ k) [] out → ⊥
take_nil (ends e) = let q = e refl in cc

pub keep_inv : {r : Rules} {w : Bool} {c : ℕ} {t : Terminal} {k : List Symbol} {ts : List Terminal} {out : List Item} → Runs r w (Keep c ∷ k) (t ∷ ts) out → (admits c t.class ≡ true) × Left r w k ts (Word t ∷ []) out
keep_inv (keeps {out = o} e m) = (e, (o, refl, m))

pub keep_nil : {r : Rules} {c : ℕ} {k : List Symbol} {out : List Item} → Runs r true (Keep c ∷ k) [] out → ⊥
keep_nil (ends e) = let q = e refl in cc

pub act_inv : {r : Rules} {w : Bool} {a : ℕ} {t : Terminal} {k : List Symbol} {ts : List Terminal} {out : List Item} → Runs r w (Act a ∷ k) (t ∷ ts) out → Left r w k (t ∷ ts) (Do a ∷ []) out
act_inv (acts {out = o} m) = (o, refl, m)

pub act_nil : {r : Rules} {a : ℕ} {k : List Symbol} {out : List Item} → Runs r true (Act a ∷ k) [] out → Left r true k [] (Do a ∷ []) out
act_nil (ends e) = let q = e refl in absurd (cc)
act_nil (acts {out = o} m) = (o, refl, m)

pub kept_front : (keep : Bool) (t : Terminal) (out : List Item) → kept keep t out ≡ kept keep t [] ++ out
kept_front true t out = refl
kept_front false t out = refl

module _ (r : Rules) (h : Hints) (d : Decides r h) where
  pub firsts_join : (tail : List ℕ) (b k : List Symbol) → Within (firsts h [] k) tail → Within (firsts h [] (b ++ k)) (firsts h tail b)
  firsts_join tail [] k w = w
  firsts_join tail (Take x ∷ b) k w = λ c e. e
  firsts_join tail (Keep x ∷ b) k w = λ c e. e
  firsts_join tail (Act x ∷ b) k w = firsts_join tail b k w
  firsts_join tail (Part n ∷ b) k w = λ c e. e
  firsts_join tail (Gives s ∷ b) k w = λ c e. e
  firsts_join tail (Then x y ∷ b) k w = λ c e. e
  firsts_join tail (Line l0 l1 l2 ∷ b) k w = λ c e. e

  pub fits_join : (tail : List ℕ) (b k : List Symbol) → Fits h tail b → Within (firsts h [] k) tail → Fits h [] k → Fits h [] (b ++ k)
  fits_join tail [] k f w g = g
  fits_join tail (Take x ∷ b) k f w g = fits_join tail b k f w g
  fits_join tail (Keep x ∷ b) k f w g = fits_join tail b k f w g
  fits_join tail (Act x ∷ b) k f w g = fits_join tail b k f w g
  fits_join tail (Part n ∷ b) k f w g =
      (λ c e. f.0 c (firsts_join tail b k w c e), fits_join tail b k f.1 w g)
  fits_join tail (Gives s ∷ b) k f w g = fits_join tail b k f w g
  fits_join tail (Line l0 l1 l2 ∷ b) k f w g = fits_join tail b k f w g
  fits_join tail (Then x y ∷ b) k f w g =
      (f.0, f.1, λ c e. f.2 c (firsts_join tail b k w c e), λ c e. f.3 c (firsts_join tail b k w c e), fits_join tail b k f.4 w g)

  pub fits_key : (n c : ℕ) (k : List Symbol) (alt : Bool × List Symbol) → r.keyed n c ≡ Some alt → Fits h [] (Part n ∷ k) → Fits h [] (alt.1 ++ k)
  fits_key n c k alt e f = fits_join (h.after n) alt.1 k (d.key_fits n c alt e) f.0 f.1

  pub fits_other : (n : ℕ) (k body : List Symbol) → r.otherwise n ≡ Some body → Fits h [] (Part n ∷ k) → Fits h [] (body ++ k)
  fits_other n k body e f = fits_join (h.after n) body k (d.other_fits n body e) f.0 f.1

  pub fits_then : (s a b : ℕ) (k : List Symbol) → Fits h [] (Gives s ∷ Then a b ∷ k) → Fits h [] (Part (chosen a b s) ∷ k)
  fits_then zero a b k f = (f.2, f.4)
  fits_then (suc _) a b k f = (f.3, f.4)

  pub may_picked : (s a b : ℕ) (k : List Symbol) → Fits h [] (Gives s ∷ Then a b ∷ k) → Within (h.may (chosen a b s)) (picked h s)
  may_picked zero a b k f = f.0
  may_picked (suc _) a b k f = f.1

  has_admits : (c d : ℕ) → admits c d ≡ true → has (c ∷ []) d ≡ true
  has_admits c d e = go (eqb c d) (eqb c (group d)) e
    where
      go : (a b : Bool) → (a || b) ≡ true → ((a || false) || (b || false)) ≡ true
      go true b e = refl
      go false true e = refl
      go false false e = absurd (cc)

  pub first_in : {w : Bool} {k : List Symbol} {ts : List Terminal} {out : List Item} → Runs r w k ts out → Fits h [] k → (t : Terminal) (us : List Terminal) → ts ≡ t ∷ us → has (firsts h [] k) t.class ≡ true
  first_in (ends e) f t us q = cc
  first_in (takes {c = x} {t = v} e m) f t us q = let s : v ≡ t = cc in has_admits x t.class (rw s at e)
  first_in (keeps {c = x} {t = v} e m) f t us q = let s : v ≡ t = cc in has_admits x t.class (rw s at e)
  first_in (acts m) f t us q = first_in m f t us q
  first_in (keys {n = n} {t = v} keep body e m) f t us q = let s : v.class ≡ t.class = cc in subst (λ (y : ℕ). has (h.may n) y ≡ true) s (d.key_may n v.class (keep, body) e)
  first_in (others {n = n} {k = k} body e m) f t us q =
      d.other_may n body e t.class (firsts_join (h.after n) body k f.0 t.class (first_in m (fits_other n k body e f) t us q))
  first_in (goes_on {s = s} {a = a} {b = b} {k = k} m) f t us q =
      may_picked s a b k f t.class (first_in m (fits_then s a b k f) t us q)

  -- a keyed token takes its alternative
  pub key_inv : {w : Bool} {out : List Item} (n : ℕ) (t : Terminal) (k : List Symbol) (alt : Bool × List Symbol) (us : List Terminal) → r.keyed n t.class ≡ Some alt → Fits h [] (Part n ∷ k) → Runs r w (Part n ∷ k) (t ∷ us) out → Left r w (alt.1 ++ k) us (kept alt.0 t []) out
  key_inv {w = w} n t k alt us e f (keys {out = o} keep b q m) =
      let s : alt ≡ (keep, b) = cc in
      (o, rw s (kept_front keep t o), rw s m)
  key_inv n t k alt us e f (others b q m) =
      absurd (d.apart n t.class alt b e q (firsts_join (h.after n) b k f.0 t.class (first_in m (fits_other n k b q f) t us refl)))

  -- a token with no key takes the other alternative
  pub other_inv : {w : Bool} {out : List Item} (n : ℕ) (t : Terminal) (k body : List Symbol) (us : List Terminal) → r.keyed n t.class ≡ None → r.otherwise n ≡ Some body → Runs r w (Part n ∷ k) (t ∷ us) out → Runs r w (body ++ k) (t ∷ us) out
  other_inv n t k body us e o (keys keep b q m) = absurd (cc)
  other_inv {w = w} {out = out} n t k body us e o (others b q m) = let s : b ≡ body = cc in subst (λ (y : List Symbol). Runs r w (y ++ k) (t ∷ us) out) s m

  pub other_nil : {out : List Item} (n : ℕ) (k body : List Symbol) → r.otherwise n ≡ Some body → Spells r (Part n ∷ k) [] out → Spells r (body ++ k) [] out
  other_nil n k body o (ends e) = let q = e refl in absurd (cc)
  other_nil {out = out} n k body o (others b q m) = let s : b ≡ body = cc in subst (λ (y : List Symbol). Runs r true (y ++ k) [] out) s m

  pub no_way : {w : Bool} {out : List Item} (n : ℕ) (t : Terminal) (k : List Symbol) (us : List Terminal) → r.keyed n t.class ≡ None → r.otherwise n ≡ None → Runs r w (Part n ∷ k) (t ∷ us) out → ⊥
  no_way n t k us e o (keys keep b q m) = cc
  no_way n t k us e o (others b q m) = cc

  pub no_way_nil : {out : List Item} (n : ℕ) (k : List Symbol) → r.otherwise n ≡ None → Spells r (Part n ∷ k) [] out → ⊥
  no_way_nil n k o (ends e) = let q = e refl in cc
  no_way_nil n k o (others b q m) = cc

  pub then_inv : {w : Bool} {out : List Item} (s a b : ℕ) (t : Terminal) (k : List Symbol) (us : List Terminal) → Runs r w (Gives s ∷ Then a b ∷ k) (t ∷ us) out → Runs r w (Part (chosen a b s) ∷ k) (t ∷ us) out
  then_inv s a b t k us (goes_on m) = m

  pub then_nil : {out : List Item} (s a b : ℕ) (k : List Symbol) → Spells r (Gives s ∷ Then a b ∷ k) [] out → Spells r (Part (chosen a b s) ∷ k) [] out
  then_nil s a b k (ends e) = let q = e refl in absurd (cc)
  then_nil s a b k (goes_on m) = m

-- After the tokens that were taken, with what was written, what is left of the symbols is k, seen from the tokens to come.
pub record Reaches (r : Rules) (start : List Symbol) (taken rest : List Terminal) (written : List Item) (k : List Symbol) : Type 0 where
  pub sound : (w : Bool) (us : List Terminal) (out : List Item) → Runs r w k us out → Runs r w start (taken ++ us) (written ++ out)
  pub ended : (out : List Item) → Spells r start taken out → Left r true k [] written out
  pub next : (w : Bool) (t : Terminal) (us more : List Terminal) (out : List Item) → rest ≡ t ∷ more → Runs r w start (taken ++ t ∷ us) out → Left r w k (t ∷ us) written out

pub reaches_start : (r : Rules) (start : List Symbol) (rest : List Terminal) → Reaches r start [] rest [] start
reaches_start r start rest = record {
  sound = λ w us out m. m;
  ended = λ out m. (out, refl, m);
  next = λ w t us more out e m. (out, refl, m);
}

-- what is left after two fronts
pub left_left : {r : Rules} {w : Bool} {k : List Symbol} {ts : List Terminal} {rest out : List Item} (front more : List Item) → out ≡ front ++ rest → Left r w k ts more rest → Left r w k ts (front ++ more) out
left_left front more e l = (l.0, rw append_assoc (rw (← l.1) e), l.2)

module _ (r : Rules) (h : Hints) (d : Decides r h) (start : List Symbol) where
  pub reaches_take : (taken rest : List Terminal) (written : List Item) (t : Terminal) (c : ℕ) (k : List Symbol) → admits c t.class ≡ true → Reaches r start taken (t ∷ rest) written (Take c ∷ k) → Reaches r start (taken ++ t ∷ []) rest written k
  reaches_take taken rest written t c k a q = record {
    sound = λ w us out m. rw append_assoc (q.sound w (t ∷ us) out (takes a m));
    ended = λ out m. let l = q.next true t [] rest out refl m in (l.0, l.1, (take_inv l.2).1);
    next = λ w x us more out e m. let l = q.next w t (x ∷ us) rest out refl (rw append_assoc at m) in (l.0, l.1, (take_inv l.2).1);
  }

  pub reaches_keep : (taken rest : List Terminal) (written : List Item) (t : Terminal) (c : ℕ) (k : List Symbol) → admits c t.class ≡ true → Reaches r start taken (t ∷ rest) written (Keep c ∷ k) → Reaches r start (taken ++ t ∷ []) rest (written ++ Word t ∷ []) k
  reaches_keep taken rest written t c k a q = record {
    sound = λ w us out m. rw (append_assoc taken, append_assoc written) (q.sound w (t ∷ us) (Word t ∷ out) (keeps a m));
    ended = λ out m. let l = q.next true t [] rest out refl m in left_left written (Word t ∷ []) l.1 (keep_inv l.2).1;
    next = λ w x us more out e m. let l = q.next w t (x ∷ us) rest out refl (rw append_assoc at m) in left_left written (Word t ∷ []) l.1 (keep_inv l.2).1;
  }

  pub reaches_act : (taken rest : List Terminal) (written : List Item) (a : ℕ) (k : List Symbol) → Reaches r start taken rest written (Act a ∷ k) → Reaches r start taken rest (written ++ Do a ∷ []) k
  reaches_act taken rest written a k q = record {
    sound = λ w us out m. rw (append_assoc written) (q.sound w us (Do a ∷ out) (acts m));
    ended = λ out m. let l = q.ended out m in left_left written (Do a ∷ []) l.1 (act_nil l.2);
    next = λ w x us more out e m. let l = q.next w x us more out e m in left_left written (Do a ∷ []) l.1 (act_inv l.2);
  }

  pub reaches_key : (taken rest : List Terminal) (written : List Item) (n : ℕ) (t : Terminal) (alt : Bool × List Symbol) (k : List Symbol) → r.keyed n t.class ≡ Some alt → Fits h [] (Part n ∷ k) → Reaches r start taken (t ∷ rest) written (Part n ∷ k) → Reaches r start (taken ++ t ∷ []) rest (written ++ kept alt.0 t []) (alt.1 ++ k)
  reaches_key taken rest written n t alt k e f q = record {
    sound = λ w us out m. rw (append_assoc taken, append_assoc written, ← kept_front alt.0 t out) (q.sound w (t ∷ us) (kept alt.0 t out) (keys alt.0 alt.1 e m));
    ended = λ out m. let l = q.next true t [] rest out refl m in left_left written (kept alt.0 t []) l.1 (key_inv r h d n t k alt [] e f l.2);
    next = λ w x us more out g m. let l = q.next w t (x ∷ us) rest out refl (rw append_assoc at m) in left_left written (kept alt.0 t []) l.1 (key_inv r h d n t k alt (x ∷ us) e f l.2);
  }

  pub reaches_other : (taken rest : List Terminal) (written : List Item) (n : ℕ) (body k : List Symbol) → ((t : Terminal) (more : List Terminal) → rest ≡ t ∷ more → r.keyed n t.class ≡ None) → r.otherwise n ≡ Some body → Reaches r start taken rest written (Part n ∷ k) → Reaches r start taken rest written (body ++ k)
  reaches_other taken rest written n body k e o q = record {
    sound = λ w us out m. q.sound w us out (others body o m);
    ended = λ out m. let l = q.ended out m in (l.0, l.1, other_nil r h d n k body o l.2);
    next = λ w x us more out g m. let l = q.next w x us more out g m in (l.0, l.1, other_inv r h d n x k body us (e x more g) o l.2);
  }

  pub reaches_then : (taken rest : List Terminal) (written : List Item) (s a b : ℕ) (k : List Symbol) → Reaches r start taken rest written (Gives s ∷ Then a b ∷ k) → Reaches r start taken rest written (Part (chosen a b s) ∷ k)
  reaches_then taken rest written s a b k q = record {
    sound = λ w us out m. q.sound w us out (goes_on m);
    ended = λ out m. let l = q.ended out m in (l.0, l.1, then_nil r h d s a b k l.2);
    next = λ w x us more out g m. let l = q.next w x us more out g m in (l.0, l.1, then_inv r h d s a b x k us l.2);
  }
