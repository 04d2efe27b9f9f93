-- Journals that are one entry longer.
use Rattle.std.proofs.Common.{◌≡◌, ℕ, ◌+◌, ◌<◌, ◌≤◌, Option, Some, None, List, [], ◌∷◌, ◌++◌, refl, sym, subst, ◌∙◌, arith}
use Rattle.cb_spec.specs.declared.system.System.{System}
use Rattle.cb_spec.specs.declared.state.State.{State}
use Rattle.cb_spec.specs.declared.state.Entry.{Entry}
use Rattle.cb_spec.specs.declared.state.Entry.TheVariants as entry
use Rattle.cb_spec.specs.declared.state.End.{End}
use Rattle.cb_spec.specs.Stores.{Writes}
use Rattle.cb_spec.specs.States.{state_of}
use Rattle.cb_spec.specs.Journals.{events, IsOpen, Step}
use Rattle.cb_spec.specs.Sound.{Good}
use Rattle.cb_safety_laws.proofs.Runs.{good_is_kept}
use Rattle.cb_system.specs.Views.{as_end, last_end}
use Rattle.cb_system.specs.Kept.{Keeps}

end_more : (es : List Entry) (e : Entry) → last_end (es ++ e ∷ []) ≡ as_end e
end_more [] e = refl
end_more (x ∷ []) e = refl
end_more (x ∷ y ∷ ys) e = end_more (y ∷ ys) e

events_more : (es : List Entry) (e : Entry) → events (es ++ e ∷ []) ≡ events es + events (e ∷ [])
events_more [] e = omega arith
events_more (entry.Settle i bits ∷ es) e = events_more es e
events_more (entry.Op i b k j args results written ∷ es) e = omega (arith, events_more es e)
events_more (entry.Pass k sent rec vs ∷ es) e = omega (arith, events_more es e)
events_more (entry.End c ∷ es) e = events_more es e

open_more : (es : List Entry) (e : Entry) → IsOpen es → as_end e ≡ None → IsOpen (es ++ e ∷ [])
open_more [] e h n = one e n
  where
    one : (e : Entry) → as_end e ≡ None → IsOpen (e ∷ [])
    one (entry.Settle i bits) n = tt
    one (entry.Op i b k j args results written) n = tt
    one (entry.Pass k sent rec vs) n = tt
    one (entry.End c) n = absurd (let s : Some c ≡ None = n in cc)
open_more (entry.Settle i bits ∷ es) e h n = open_more es e h n
open_more (entry.Op i b k j args results written ∷ es) e h n = open_more es e h n
open_more (entry.Pass k sent rec vs ∷ es) e h n = open_more es e h n
open_more (entry.End c ∷ es) e h n = absurd h

module _ (y : System) (limit : ℕ) (s0 : Writes) (es : List Entry) (s : State) (count : ℕ) (end : Option End) (len room : ℕ) (k : Keeps y limit s0 es s count end len room) where
  pub is_open : last_end es ≡ None → IsOpen es
  is_open none = k.goes_on (k.end_is ∙ none)

  -- a lawful entry more
  pub keeps_more : (e : Entry) (t : State) (new : List Entry) (count' len' room' : ℕ) → last_end es ≡ None → Step y limit es (state_of s) e (state_of t) → new ≡ es ++ e ∷ [] →
      count' ≡ count + events (e ∷ []) → (as_end e ≡ None → len' < room') → Keeps y limit s0 new t count' (as_end e) len' room'
  keeps_more e t new count' len' room' none step is count_is space = subst (λ (l : List Entry). Keeps y limit s0 l t count' (as_end e) len' room') (sym is) (record {
    good = good_is_kept y limit s0 es (state_of s) e (state_of t) k.good step;
    count_is = (let c = k.count_is in let m = events_more es e in omega (arith, c, m, count_is));
    within = by e step count_is;
    end_is = sym (end_more es e);
    goes_on = λ n. open_more es e (is_open none) n;
    space = space;
  })
    where
      by : (e : Entry) → Step y limit es (state_of s) e (state_of t) → count' ≡ count + events (e ∷ []) → count' ≤ limit
      by (entry.Settle i bits) r c = let w = k.within in omega (arith, c, w)
      by (entry.Op i b m j args results written) r c = let w = k.count_is in let l = r.1 in omega (arith, c, w, l)
      by (entry.Pass m sent rec vs) r c = let w = k.count_is in let l = r.1 in omega (arith, c, w, l)
      by (entry.End d) r c = let w = k.within in omega (arith, c, w)

  -- in another state in which names stand for the same
  pub keeps_same : (t : State) (len' room' : ℕ) → state_of t ≡ state_of s → (end ≡ None → len' < room') → Keeps y limit s0 es t count end len' room'
  keeps_same t len' room' same space = record {
    good = subst (Good y limit s0 es) (sym same) k.good;
    count_is = k.count_is;
    within = k.within;
    end_is = k.end_is;
    goes_on = k.goes_on;
    space = space;
  }
