use Rattle.std.proofs.Common.{◌≡◌, ℕ, ◌<◌, ◌≤◌, ◌+◌, ◌-◌, ◌*◌, zero, suc, Bool, true, false, List, [], ◌∷◌, ◌++◌, refl, ap, arith, take, drop, length, add-one}
use Rattle.std.specs.Prelude.{Option}
use Rattle.std.specs.List.{slice_get}
use Rattle.std.proofs.lemmas.List.{append-nil}
use Rattle.cb_engine.specs.declared.Symbol.{Symbol}
use Rattle.cb_engine.specs.declared.Symbol.TheVariants.{Part}
use Rattle.cb_engine.specs.declared.Terminal.{Terminal}
use Rattle.cb_engine.specs.declared.Item.{Item}
use Rattle.cb_engine.specs.Rules.{Rules, Runs, Hints, Fits, Decides}
use Rattle.cb_engine.specs.Rules.Runs.{ends}
use Rattle.cb_engine.specs.declared.Step.{Step}
use Rattle.cb_engine.specs.declared.Step.TheVariants as step
use Rattle.cb_engine.specs.Steps.{move, IsStep}
use Rattle.cb_engine.specs.Steps.Move.{AtEnd, NoWay, Moves}
use Rattle.cb_engine.specs.Readings.{IsWhole, IsFault, weigh, Light}
use Rattle.cb_engine.proofs.Reaching.{Reaches, reaches_start}
use Rattle.cb_engine.proofs.Moving.{After, after, head, Took, Stayed, Halts, lighter, Lighter}

pub record Reads (r : Rules) (tokens : List Terminal) (start at : ℕ) (out : List Item) (k : List Symbol) : Type 0 where
  pub within : at ≤ length tokens
  pub reaches : Reaches r (Part start ∷ []) (take at tokens) (drop at tokens) out k
  pub fits : (h : Hints) × Decides r h × Fits h [] k

-- one more
pub take_one : {t : Terminal} {more : List Terminal} (n : ℕ) (l : List Terminal) → drop n l ≡ t ∷ more → take (suc n) l ≡ take n l ++ t ∷ []
take_one zero [] e = absurd (cc)
take_one zero (x ∷ l) e = let s : x ≡ _ = cc in rw s refl
take_one (suc n) [] e = absurd (cc)
take_one (suc n) (x ∷ l) e = ap (λ (y : List Terminal). x ∷ y) (take_one n l e)

pub drop_one : {t : Terminal} {more : List Terminal} (n : ℕ) (l : List Terminal) → drop n l ≡ t ∷ more → (drop (suc n) l ≡ more) × (n < length l)
drop_one zero [] e = absurd (cc)
drop_one zero (x ∷ l) e = (cc, omega arith)
drop_one (suc n) [] e = absurd (cc)
drop_one (suc n) (x ∷ l) e = let q = drop_one n l e in (q.0, omega (arith, q.1))

pub head_drop : (n : ℕ) (l : List Terminal) → head (drop n l) ≡ slice_get l n
head_drop zero [] = refl
head_drop zero (x ∷ l) = refl
head_drop (suc n) [] = refl
head_drop (suc n) (x ∷ l) = head_drop n l

pub reads_start : (r : Rules) (ts : List Terminal) (start : ℕ) → ((h : Hints) × Decides r h) → Reads r ts start 0 [] (Part start ∷ [])
reads_start r ts start d = record {
  within = omega arith;
  reaches = reaches_start r (Part start ∷ []) ts;
  fits = (d.0, d.1, (λ c e. absurd (cc), tt));
}

pub turned : (r : Rules) (ts : List Terminal) (start at : ℕ) (out : List Item) (k : List Symbol) (q : Reads r ts start at out k) → After r q.fits.0 (Part start ∷ []) (take at ts) (drop at ts) out k (move r (slice_get ts at) k)
turned r ts start at out k q =
    rw (← head_drop at ts) (after r q.fits.0 q.fits.1 (Part start ∷ []) (take at ts) (drop at ts) out k (q.reaches, q.fits.2))

pub took_one : (r : Rules) (ts : List Terminal) (start at : ℕ) (out x : List Item) (k j : List Symbol) → Reads r ts start at out k → move r (slice_get ts at) k ≡ Moves true x j → Reads r ts start (at + 1) (out ++ x) j × (at < length ts)
took_one r ts start at out x k j q e = go (rw e at (turned r ts start at out k q))
  where
    go : Took r q.fits.0 (Part start ∷ []) (take at ts) (drop at ts) (out ++ x) j → Reads r ts start (at + 1) (out ++ x) j × (at < length ts)
    go w =
        let d : (drop (suc at) ts ≡ w.more) × (at < length ts) = drop_one at ts w.is in (
          record {
            within = omega (arith, d.1);
            reaches = rw (add-one, take_one at ts w.is, d.0) w.reaches;
            fits = (q.fits.0, q.fits.1, w.fits);
          },
          d.1,
        )

pub stayed_one : (r : Rules) (ts : List Terminal) (start at : ℕ) (out x : List Item) (k j : List Symbol) → Reads r ts start at out k → move r (slice_get ts at) k ≡ Moves false x j → Reads r ts start at (out ++ x) j
stayed_one r ts start at out x k j q e = go (rw e at (turned r ts start at out k q))
  where
    go : Stayed r q.fits.0 (Part start ∷ []) (take at ts) (drop at ts) (out ++ x) j → Reads r ts start at (out ++ x) j
    go w = record { within = q.within; reaches = w.reaches; fits = (q.fits.0, q.fits.1, w.fits) }

nothing_more : (r : Rules) (w : Bool) (t : Terminal) (us : List Terminal) (out : List Item) → Runs r w [] (t ∷ us) out → ⊥
nothing_more r w t us out m = elim m [ ]

nothing_left : {r : Rules} {out : List Item} → Runs r true [] [] out → out ≡ []
nothing_left (ends e) = refl

pub over_whole : (r : Rules) (ts : List Terminal) (start at : ℕ) (out : List Item) (k : List Symbol) → Reads r ts start at out k → move r (slice_get ts at) k ≡ AtEnd → IsWhole r (Part start ∷ []) ts at out
over_whole r ts start at out k q e = go k (rw e at (turned r ts start at out k q)) q.reaches
  where
    go : (k : List Symbol) → k ≡ [] → Reaches r (Part start ∷ []) (take at ts) (drop at ts) out k → IsWhole r (Part start ∷ []) ts at out
    go [] e p = record {
      within = q.within;
      spelled = simp append-nil at (p.sound true [] [] (ends (λ _. refl)));
      only = λ other m. let l = p.ended other m in rw (l.1, nothing_left l.2) (append-nil out);
      longest = λ t more g b. let l = p.next false t [] more b.0 g b.1 in nothing_more r false t [] l.0 l.2;
    }
    go (s ∷ k) e p = absurd (cc)

pub stuck_fault : (r : Rules) (ts : List Terminal) (start at : ℕ) (out : List Item) (k : List Symbol) → Reads r ts start at out k → move r (slice_get ts at) k ≡ NoWay → IsFault r (Part start ∷ []) ts at
stuck_fault r ts start at out k q e = go (rw e at (turned r ts start at out k q))
  where
    go : Halts r (Part start ∷ []) (take at ts) (drop at ts) → IsFault r (Part start ∷ []) ts at
    go w = record {
      within = q.within;
      begun = (out, simp append-nil at (q.reaches.sound false [] [] (ends (λ f. absurd (cc)))));
      unspelled = w.unspelled;
      stops = w.stops;
    }

-- One turn of the loop, by what the step answered. left counts the steps that are left.
abbrev pub left : (ℕ → ℕ) → List Terminal → ℕ → List Symbol → ℕ
left wt ts at k = 1000 * (length ts - at) + weigh wt k

abbrev pub Turned : Rules → List Terminal → ℕ → ℕ → List Symbol → List Item → List Symbol → Step → Type 0
Turned r ts start at k new j step.Over = IsWhole r (Part start ∷ []) ts at new
Turned r ts start at k new j step.Stuck = IsFault r (Part start ∷ []) ts at
Turned r ts start at k new j step.Taken =
    Reads r ts start (at + 1) new j × (at < length ts) × ((wt : ℕ → ℕ) → Light r wt → left wt ts (at + 1) j < left wt ts at k)
Turned r ts start at k new j step.Stayed =
    Reads r ts start at new j × ((wt : ℕ → ℕ) → Light r wt → left wt ts at j < left wt ts at k)

pub turn : (r : Rules) (ts : List Terminal) (start at : ℕ) (out : List Item) (k : List Symbol) (next : Option Terminal) (new : List Item) (j : List Symbol) (s : Step) → Reads r ts start at out k → next ≡ slice_get ts at → IsStep (move r next k) j out new s → Turned r ts start at k new j s
turn r ts start at out k next new j step.Over q n i = rw i.1 (over_whole r ts start at out k q (rw n at i.0))
turn r ts start at out k next new j step.Stuck q n i = stuck_fault r ts start at out k q (rw n at i)
turn r ts start at out k next new j step.Taken q n i =
    let e : move r (slice_get ts at) k ≡ Moves true i.0 j = rw n at i.1 in
    let d = took_one r ts start at out i.0 k j q e in
    (rw i.2 d.0, d.1, λ wt light. let l : Lighter wt k (Moves true i.0 j) = rw e at (lighter r wt light (slice_get ts at) k) in omega (arith, d.1, l))
turn r ts start at out k next new j step.Stayed q n i =
    let e : move r (slice_get ts at) k ≡ Moves false i.0 j = rw n at i.1 in
    (rw i.2 (stayed_one r ts start at out i.0 k j q e), λ wt light. let l : Lighter wt k (Moves false i.0 j) = rw e at (lighter r wt light (slice_get ts at) k) in omega (arith, l))
