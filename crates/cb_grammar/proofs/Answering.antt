-- The first fault of a part: by syntax or by depth.
use Rattle.std.specs.Prelude.{◌≡◌, ℕ, zero, suc, ◌+◌, ◌<◌, ◌≤◌, Bool, true, false, List, [], ◌∷◌, ◌++◌, Option, Some, None, take, drop, length, map, refl}
use Rattle.std.proofs.Common.{cond, ap, sym, arith, ◌∙◌, Vec, Global, slice_get}
use Rattle.std.proofs.lemmas.List.{take-append-drop, take-take}
use Rattle.cb_lex.specs.declared.token.Token.{Token}
use Rattle.cb_engine.specs.declared.Terminal.{Terminal}
use Rattle.cb_engine.specs.declared.Item.{Item}
use Rattle.cb_engine.specs.declared.Reading.{Reading}
use Rattle.cb_engine.specs.declared.Reading.TheVariants as reading
use Rattle.cb_engine.specs.Rules.{Begins}
use Rattle.cb_engine.specs.Readings.{IsReading}
use Rattle.cb_engine.specs.Fronts.{begins_front}
use Rattle.cb_grammar.specs.declared.depth.Mark.{Mark}
use Rattle.cb_grammar.specs.declared.parts.Part.{Part}
use Rattle.cb_grammar.specs.Depth.{State, first_deep, too_deep, after, start}
use Rattle.cb_grammar.specs.Marks.{mark_of}
use Rattle.cb_grammar.specs.Terminals.{terminals, opens}
use Rattle.cb_grammar.specs.Misreadings.{language, symbols_of, end, ShallowBefore, IsDeepAt, IsRead, IsStuckAt, place_at, is_joining, refused, Misread}
use Rattle.cb_grammar.specs.declared.reading.SyntaxFault.{SyntaxFault}
use Rattle.cb_grammar.specs.declared.reading.SyntaxFault.TheVariants as fault

pub length-terminals : (opened : Bool) (i : ℕ) (ts : List Token) → length (terminals opened i ts) ≡ length ts
length-terminals opened i [] = refl
length-terminals opened i (t ∷ ts) = ap suc (length-terminals (opens opened t.sort) (i + 1) ts)

-- what is too deep stands where it is looked for, or later
deep_from : (base : ℕ) (s : State) (at d : ℕ) (ms : List Mark) → first_deep base s at ms ≡ Some d → at ≤ d
deep_from base s at d [] e = absurd (cc)
deep_from base s at d (m ∷ ms) e = go (too_deep base m (after m s)) e (deep_from base (after m s) (at + 1) d ms)
  where
    go : (b : Bool) → cond b (Some at) (first_deep base (after m s) (at + 1) ms) ≡ Some d → (first_deep base (after m s) (at + 1) ms ≡ Some d → at + 1 ≤ d) → at ≤ d
    go true e more = let q : at ≡ d = cc in omega arith
    go false e more = let q : at + 1 ≤ d = more e in omega arith

-- what is too deep in the first tokens is so in all of them
deep_front : (n base : ℕ) (s : State) (at d : ℕ) (ts : List Token) → first_deep base s at (map mark_of (take n ts)) ≡ Some d → (first_deep base s at (map mark_of ts) ≡ Some d) × (d < at + n)
deep_front zero base s at d ts e = absurd (cc)
deep_front (suc n) base s at d [] e = absurd (cc)
deep_front (suc n) base s at d (t ∷ ts) e = go (too_deep base (mark_of t) (after (mark_of t) s)) e (deep_front n base (after (mark_of t) s) (at + 1) d ts)
  where
    rest : List Token → Option ℕ
    rest us = first_deep base (after (mark_of t) s) (at + 1) (map mark_of us)

    go : (b : Bool) → cond b (Some at) (first_deep base (after (mark_of t) s) (at + 1) (map mark_of (take n ts))) ≡ Some d →
        (first_deep base (after (mark_of t) s) (at + 1) (map mark_of (take n ts)) ≡ Some d → (first_deep base (after (mark_of t) s) (at + 1) (map mark_of ts) ≡ Some d) × (d < (at + 1) + n)) →
        (cond b (Some at) (first_deep base (after (mark_of t) s) (at + 1) (map mark_of ts)) ≡ Some d) × (d < at + suc n)
    go true e more = let q : at ≡ d = cc in (e, omega arith)
    go false e more = let q = more e in (q.0, omega (arith, q.1))

-- where nothing is too deep in the first tokens, what is stands behind them
deep_past : (n base : ℕ) (s : State) (at d : ℕ) (ts : List Token) → n ≤ length ts → first_deep base s at (map mark_of (take n ts)) ≡ None → first_deep base s at (map mark_of ts) ≡ Some d → at + n ≤ d
deep_past zero base s at d ts l e f = let q : at ≤ d = deep_from base s at d (map mark_of ts) f in omega arith
deep_past (suc n) base s at d [] l e f = absurd (cc)
deep_past (suc n) base s at d (t ∷ ts) l e f = go (too_deep base (mark_of t) (after (mark_of t) s)) e f (deep_past n base (after (mark_of t) s) (at + 1) d ts (omega arith))
  where
    go : (b : Bool) → cond b (Some at) (first_deep base (after (mark_of t) s) (at + 1) (map mark_of (take n ts))) ≡ None → cond b (Some at) (first_deep base (after (mark_of t) s) (at + 1) (map mark_of ts)) ≡ Some d →
        (first_deep base (after (mark_of t) s) (at + 1) (map mark_of (take n ts)) ≡ None → first_deep base (after (mark_of t) s) (at + 1) (map mark_of ts) ≡ Some d → (at + 1) + n ≤ d) → at + suc n ≤ d
    go true e f more = absurd (cc)
    go false e f more = let q : (at + 1) + n ≤ d = more e f in omega arith

module _ (p : Part) (depth : ℕ) (opened : Bool) (ts : List Token) where
  abbrev Ends : Reading → Type 0
  Ends r = IsReading language (symbols_of p) (terminals opened 0 ts) r

  pub end_within : (r : Reading) → Ends r → end r ≤ length ts
  end_within (reading.Whole to out) e = let q : length (terminals opened 0 ts) ≡ length ts = length-terminals opened 0 ts in omega (arith, e.within)
  end_within (reading.Fault to) e = let q : length (terminals opened 0 ts) ≡ length ts = length-terminals opened 0 ts in omega (arith, e.within)

  pub shallow : (to : ℕ) → to ≤ length ts → first_deep depth start 0 (map mark_of (take to ts)) ≡ None → ShallowBefore depth ts to
  shallow to l e d f = let q : 0 + to ≤ d = deep_past to depth start 0 d ts l e f in omega arith

  front : (n to : ℕ) → n ≤ to → take to (terminals opened 0 ts) ≡ take n (terminals opened 0 ts) ++ drop n (take to (terminals opened 0 ts))
  front n to l =
      let a : take n (take to (terminals opened 0 ts)) ++ drop n (take to (terminals opened 0 ts)) ≡ take to (terminals opened 0 ts) = take-append-drop n (take to (terminals opened 0 ts)) in
      let b : take n (take to (terminals opened 0 ts)) ≡ take n (terminals opened 0 ts) = take-take n to (terminals opened 0 ts) l in
      sym (rw b at a)

  begun : (n : ℕ) (r : Reading) → Ends r → n ≤ end r → Begins language (symbols_of p) (take n (terminals opened 0 ts))
  begun n (reading.Whole to out) e l = begins_front e.spelled (take n (terminals opened 0 ts)) (drop n (take to (terminals opened 0 ts))) (front n to l)
  begun n (reading.Fault to) e l = begins_front e.begun.1 (take n (terminals opened 0 ts)) (drop n (take to (terminals opened 0 ts))) (front n to l)

  pub found_deep : (ms : List Terminal) (r : Reading) (to at : ℕ) (found : Option ℕ) → ms ≡ terminals opened 0 ts → IsReading language (symbols_of p) ms r → to ≡ end r → found ≡ first_deep depth start 0 (map mark_of (take to ts)) → found ≡ Some at → IsDeepAt p depth opened ts at
  found_deep ms r to at found m e n f s =
      let g : first_deep depth start 0 (map mark_of (take (end r) ts)) ≡ Some at = rw n at (sym f ∙ s) in
      let q = deep_front (end r) depth start 0 at ts g in
      record { deep = q.0; begun = begun (at + 1) r (rw m at e) (omega (arith, q.1)) }

  pub found_none : (ms : List Terminal) (r : Reading) (to : ℕ) (found : Option ℕ) → ms ≡ terminals opened 0 ts → IsReading language (symbols_of p) ms r → to ≡ end r → found ≡ first_deep depth start 0 (map mark_of (take to ts)) → found ≡ None → ShallowBefore depth ts (end r)
  found_none ms r to found m e n f s = shallow (end r) (end_within r (rw m at e)) (rw n at (sym f ∙ s))

  pub is_read : (ms : List Terminal) (r : Reading) (to : ℕ) (out : Vec Item Global) → ms ≡ terminals opened 0 ts → IsReading language (symbols_of p) ms r → r ≡ reading.Whole to out → ShallowBefore depth ts (end r) → IsRead p depth opened ts to out.items
  is_read ms r to out m e w s = record { whole = rw (m, w) at e; shallow = rw w at s }

  pub is_stuck : (ms : List Terminal) (r : Reading) (at : ℕ) → ms ≡ terminals opened 0 ts → IsReading language (symbols_of p) ms r → r ≡ reading.Fault at → ShallowBefore depth ts (end r) → IsStuckAt p depth opened ts at
  is_stuck ms r at m e w s = record { stuck = rw (m, w) at e; shallow = rw w at s }

  -- so it is the first fault
  pub is_misread : (at : ℕ) (f : SyntaxFault) → f ≡ refused ts at → IsStuckAt p depth opened ts at → Misread p depth opened ts f
  is_misread at (fault.Syntax place) e s = (at, s, e)
  is_misread at (fault.Mixed place) e s = (at, s, e)
  is_misread at (fault.Deep place) e s = absurd (never (is_joining (slice_get ts at)) e)
    where
      never : (b : Bool) → fault.Deep place ≡ cond b (fault.Mixed (place_at ts at)) (fault.Syntax (place_at ts at)) → ⊥
      never true e = absurd (cc)
      never false e = absurd (cc)
  is_misread at fault.Memory e s = tt
