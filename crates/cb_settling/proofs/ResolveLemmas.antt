-- Steps of resolving a process.
use Rattle.std.proofs.Common.{◌≡◌, ℕ, zero, suc, ◌+◌, ◌<◌, ◌≤◌, Bool, true, false, List, [], ◌∷◌, ◌++◌, length, slice_get, Result, Ok, Err, Option, OnOk, IfOk, IsTrue, ◌↔◌, Some, None, unwrap_or, inl, inr, refl, sym, ap, subst, ◌∙◌, arith, append-nil, append_assoc, length-append}
use Rattle.std.proofs.lemmas.List.{map-append}
use Rattle.std.proofs.lemmas.Option.{slice_get_within}
use Rattle.cb_term.specs.declared.name.Name.{Name}
use Rattle.cb_term.specs.declared.value.Value.{Value}
use Rattle.cb_term.specs.Tree.{TermTree, FormulaTree}
use Rattle.cb_term.specs.Values.{Look}
use Rattle.cb_term.specs.Holds.{Holds}
use Rattle.cb_spec.specs.declared.event.Event.{Event}
use Rattle.cb_spec.specs.declared.system.Controller.{Controller}
use Rattle.cb_spec.specs.declared.system.Definition.{Definition}
use Rattle.cb_spec.specs.declared.system.System.{System}
use Rattle.cb_spec.specs.ProcessTree.{ProcessTree, Stop, Skip, Call, Prefix, Choice, Internal, If}
use Rattle.cb_spec.specs.Bound.{names, bound_look}
use Rattle.cb_spec.specs.States.{IsAt, ControlView, Offering}
use Rattle.cb_spec.specs.Stores.{Writes, look_of}
use Rattle.cb_spec.specs.Settling.{AreValues, Settles, number_of}
use Rattle.cb_spec.specs.Silent.{CallsLater, Way}
use Rattle.cb_spec.specs.Journals.{set_sizes}
use Rattle.cb_spec.specs.TypedTerms.{Scope}
use Rattle.cb_spec.specs.TypedProcesses.{TypedProcess, scope_of}
use Rattle.cb_spec.specs.Typed.{global_names, TypedDefinition}
use Rattle.cb_spec.specs.Sound.{FineProcess}
use Rattle.cb_eval.specs.TypedIn.{TypedIn}
use Rattle.cb_typed.proofs.Erasing.{some_and}
use Rattle.cb_safety_laws.proofs.Lists.{has_at}
use Rattle.cb_safety_laws.proofs.Forms.{small_sets}
use Rattle.cb_safety_laws.proofs.Parts.{internal_left, internal_right, if_then, if_else, body_fine}
use Rattle.cb_code.specs.declared.code.Node.{Node}
use Rattle.cb_code.specs.Nodes.{part, tree_of, PartsBelow}
use Rattle.cb_code.proofs.CodeLemmas.{part_is}
use Rattle.cb_settling.specs.declared.settle.Outcome.{Outcome}
use Rattle.cb_settling.specs.declared.settle.Outcome.TheVariants.{Shown, Over}
use Rattle.cb_settling.specs.declared.settle.Led.{Led}
use Rattle.cb_settling.specs.declared.settle.Led.TheVariants.{Offers, Ends, Calls}
use Rattle.cb_settling.specs.Branches.{IsPrefix, ArePrefixes, offered, branches_at}
use Rattle.cb_settling.proofs.BindLemmas.{args_typed, in_as_many}
use Rattle.cb_settling.specs.Resolving.{AreTypedIn, CanTest, CanResolve, FewLeft, CallsFrom, Adds, GoesOn, LedBy, LedFrom, IsEntered, here_of, outcome_of, ShowsPrefixes, IsSettled, Going}

-- ---- what is offered

prefixes_both : (ps : List ProcessTree) (js ks : List ℕ) → ArePrefixes ps js → ArePrefixes ps ks → ArePrefixes ps (js ++ ks)
prefixes_both ps [] ks a b = b
prefixes_both ps (j ∷ js) ks a b = (a.0, prefixes_both ps js ks a.1 b)

module _ (sizes : List ℕ) (ps : List ProcessTree) (env : Look) where
  pub adds_none : (old : List ℕ) → Adds sizes ps Stop env old old
  adds_none old = ([], (sym (append-nil old), record { settles = λ ds n. (refl, refl); prefixes = tt }))

  pub adds_one : (k : ℕ) (e : Event) (p : ProcessTree) (old new : List ℕ) → part ps k ≡ Prefix e p → new ≡ old ++ k ∷ [] → Adds sizes ps (Prefix e p) env old new
  adds_one k e p old new at is = (
    k ∷ [],
    (
      is,
      record {
        settles = λ ds n. (refl, ap (λ q. Offering (offered q env ∷ [])) at);
        prefixes = (subst IsPrefix (sym at) tt, tt);
      },
    ),
  )

  pub adds_both : (p q : ProcessTree) (old mid new : List ℕ) → Adds sizes ps p env old mid → Adds sizes ps q env mid new → Adds sizes ps (Choice p q) env old new
  adds_both p q old mid new a b = (
    a.0 ++ b.0,
    (
      b.1.0 ∙ ap (λ l. l ++ b.0) a.1.0 ∙ append_assoc old a.0 b.0,
      record {
        settles = λ ds n. (
          branches_at ps a.0 env,
          (
            branches_at ps b.0 env,
            (
              [],
              (
                [],
                (a.1.1.settles ds n, b.1.1.settles ds n, refl, ap Offering (map-append (λ k. offered (part ps k) env) a.0 b.0)),
              ),
            ),
          ),
        );
        prefixes = prefixes_both ps a.0 b.0 a.1.1.prefixes b.1.1.prefixes;
      },
    ),
  )

  pub adds_then : (f : FormulaTree) (p q : ProcessTree) (old new : List ℕ) → Holds sizes env f [] → Adds sizes ps p env old new → Adds sizes ps (If f p q) env old new
  adds_then f p q old new h a = (a.0, (a.1.0, record { settles = λ ds n. inl (h, a.1.1.settles ds n); prefixes = a.1.1.prefixes }))

  pub adds_else : (f : FormulaTree) (p q : ProcessTree) (old new : List ℕ) → (¬ Holds sizes env f []) → Adds sizes ps q env old new → Adds sizes ps (If f p q) env old new
  adds_else f p q old new h a = (a.0, (a.1.0, record { settles = λ ds n. inr (h, a.1.1.settles ds n); prefixes = a.1.1.prefixes }))

-- ---- ways

from_zero : (p : ProcessTree) → CallsFrom 0 p
from_zero Stop = tt
from_zero Skip = tt
from_zero (Call k ts) = omega arith
from_zero (Prefix e p) = tt
from_zero (Choice p q) = (from_zero p, from_zero q)
from_zero (Internal p q) = (from_zero p, from_zero q)
from_zero (If f p q) = (from_zero p, from_zero q)

later_from : (j : ℕ) (p : ProcessTree) → CallsLater j p → CallsFrom (suc j) p
later_from j Stop h = tt
later_from j Skip h = tt
later_from j (Call k ts) h = omega (arith, h)
later_from j (Prefix e p) h = tt
later_from j (Choice p q) h = (later_from j p h.0, later_from j q h.1)
later_from j (Internal p q) h = (later_from j p h.0, later_from j q h.1)
later_from j (If f p q) h = (later_from j p h.0, later_from j q h.1)

pub from_less : (f g : ℕ) (p : ProcessTree) → f ≤ g → CallsFrom g p → CallsFrom f p
from_less f g Stop l h = tt
from_less f g Skip l h = tt
from_less f g (Call k ts) l h = omega (arith, l, h)
from_less f g (Prefix e p) l h = tt
from_less f g (Choice p q) l h = (from_less f g p l h.0, from_less f g q l h.1)
from_less f g (Internal p q) l h = (from_less f g p l h.0, from_less f g q l h.1)
from_less f g (If t p q) l h = (from_less f g p l h.0, from_less f g q l h.1)

module _ (y : System) (i : ℕ) (c : Controller) (typed : (j : ℕ) (d : Definition) → IsAt c.definitions j d → TypedDefinition y i c j d) where
  -- each process has a way, since calls go on to later definitions
  ways : (left f : ℕ) → length c.definitions ≤ f + left → (p : ProcessTree) (scope : Scope) (taken : List Name) → CallsFrom f p → TypedProcess y (global_names y) i c scope taken p →
      (n : ℕ) × ((k : ℕ) × Way c.definitions n p k)
  ways left f l Stop scope taken h t = (0, (0, refl))
  ways left f l Skip scope taken h t = (0, (0, refl))
  ways zero f l (Call k ts) scope taken h t =
      let d = some_and (slice_get c.definitions k) _ t in absurd (omega (arith, l, h, slice_get_within c.definitions k d.0 d.1))
  ways (suc left) f l (Call k ts) scope taken h t =
      let d = some_and (slice_get c.definitions k) _ t in
      let body = typed k d.0 d.1 in
      let w = ways left (suc k) (omega (arith, l, h)) d.0.body (scope_of d.0.params) (names d.0.params ++ global_names y) (later_from k d.0.body body.calls_later) body.body in
      (suc w.0, (w.1.0, (d.0, (d.1, w.1.1))))
  ways left f l (Prefix e p) scope taken h t = (0, (0, refl))
  ways left f l (Choice p q) scope taken h t = let w = ways left f l p scope taken h.0 t.0 in (w.0, (w.1.0, inl w.1.1))
  ways left f l (Internal p q) scope taken h t = let w = ways left f l p scope taken h.0 t.0 in (w.0, (suc w.1.0, (w.1.0, (omega arith, inl w.1.1))))
  ways left f l (If g p q) scope taken h t = let w = ways left f l p scope taken h.0 t.1 in (w.0, (w.1.0, inl w.1.1))

-- ---- steps of a process that can be resolved

module _ (ds : List Definition) (m : ℕ) where
  pub few_left : (p q : ProcessTree) (m' : ℕ) → m' ≡ m + 1 → FewLeft ds (Internal p q) m → FewLeft ds p m'
  few_left p q m' is h n k w = let few = h n (1 + k) (k, (refl, inl w)) in omega (arith, few, is)

  pub few_right : (p q : ProcessTree) (m' : ℕ) → m' ≡ m + 1 → FewLeft ds (Internal p q) m → FewLeft ds q m'
  few_right p q m' is h n k w = let few = h n (1 + k) (k, (refl, inr w)) in omega (arith, few, is)

  pub few_then : (f : FormulaTree) (p q : ProcessTree) → FewLeft ds (If f p q) m → FewLeft ds p m
  few_then f p q h n k w = h n k (inl w)

  pub few_else : (f : FormulaTree) (p q : ProcessTree) → FewLeft ds (If f p q) m → FewLeft ds q m
  few_else f p q h n k w = h n k (inr w)

module _ (y : System) (c : Controller) (env : Look) where
  at_part : (p q : ProcessTree) (h : CanResolve y c p env) → FineProcess y h.number c q env h.store → CanResolve y c q env
  at_part p q h f = record { typed = h.typed; sound = h.sound; number = h.number; its = h.its; store = h.store; own = h.own; fine = f }

  pub can_left : (p q : ProcessTree) → CanResolve y c (Internal p q) env → CanResolve y c p env
  can_left p q h = at_part (Internal p q) p h (internal_left y h.number c env h.store p q h.fine)

  pub can_right : (p q : ProcessTree) → CanResolve y c (Internal p q) env → CanResolve y c q env
  can_right p q h = at_part (Internal p q) q h (internal_right y h.number c env h.store p q h.fine)

  pub can_then : (f : FormulaTree) (p q : ProcessTree) → Holds (set_sizes y) env f [] → CanResolve y c (If f p q) env → CanResolve y c p env
  can_then f p q holds h = at_part (If f p q) p h (if_then y h.number c env h.store f p q holds h.fine)

  pub can_else : (f : FormulaTree) (p q : ProcessTree) → (¬ Holds (set_sizes y) env f []) → CanResolve y c (If f p q) env → CanResolve y c q env
  can_else f p q fails h = at_part (If f p q) q h (if_else y h.number c env h.store f p q fails h.fine)

  pub can_test : (p : ProcessTree) → CanResolve y c p env → CanTest y c p env
  can_test p h = record { number = h.number; scope = h.fine.scope; taken = h.fine.taken; typed = h.fine.typed; agrees = h.fine.agrees; small_sets = small_sets y h.typed }

  pub test_typed : (f : FormulaTree) (p q : ProcessTree) → CanResolve y c (If f p q) env → TypedIn (set_sizes y) env f
  test_typed f p q h = record { scope = h.fine.scope; taken = h.fine.taken; agrees = h.fine.agrees; small_sets = small_sets y h.typed; typed = h.fine.typed.0 }

  -- there is room for one choice more, since from each process there is a way
  pub room_left : (p q : ProcessTree) (m : ℕ) → FewLeft c.definitions (Internal p q) m → CanResolve y c (Internal p q) env → m < 64
  room_left p q m few h =
      let definitions = (h.typed.controllers h.number c h.its).definitions in
      let w = ways y h.number c definitions (length c.definitions) 0 (omega arith) (Internal p q) h.fine.scope h.fine.taken (from_zero (Internal p q)) h.fine.typed in
      let at = met w.0 w.1.0 w.1.1 in
      let most = few w.0 w.1.0 w.1.1 in
      omega (arith, most, at)
    where
      met : (n k : ℕ) → Way c.definitions n (Internal p q) k → 1 ≤ k
      met n k w = omega (arith, w.1.0)

-- ---- calls

pub call_args : (y : System) (c : Controller) (env : Look) (k : ℕ) (ts : List TermTree) → CanResolve y c (Call k ts) env → AreTypedIn (set_sizes y) env ts
call_args y c env k ts h =
    let d = some_and (slice_get c.definitions k) _ h.fine.typed in
    args_typed (set_sizes y) h.fine.scope h.fine.taken env d.0.params ts h.fine.agrees (small_sets y h.typed) d.2

pub goes_on : (y : System) (c : Controller) (env : Look) (m k : ℕ) (ts : List TermTree) (vs : List Value) → FewLeft c.definitions (Call k ts) m → CanResolve y c (Call k ts) env →
    AreValues (set_sizes y) env ts vs → GoesOn y c (Call k ts) env [] m k vs
goes_on y c env m k ts vs few h are =
    let d = some_and (slice_get c.definitions k) _ h.fine.typed in
    let s = has_at (slice_get c.definitions k) _ d.0 h.fine.sat d.1 vs are in
    record {
      definition = d.0;
      its = d.1;
      as_many = in_as_many (set_sizes y) d.0.params vs s.0;
      later = λ f l. l;
      can = record {
        typed = h.typed;
        sound = h.sound;
        number = h.number;
        its = h.its;
        store = h.store;
        own = h.own;
        fine = body_fine y h.typed h.sound h.number c h.its h.store h.own k ts env d.0 vs d.1 are h.fine;
      };
      few = λ n w at. few (suc n) w (d.0, (d.1, at));
      settles = λ n ws o r. (d.0, (vs, (d.1, are, r)));
    }

-- ---- where choices have led

module _ (y : System) (c : Controller) (ps : List ProcessTree) (env : Look) where
  by_then : (f : FormulaTree) (p q : ProcessTree) (ts : List Bool) (m : ℕ) (led : Led) → Holds (set_sizes y) env f [] → LedBy y c ps p env ts m led → LedBy y c ps (If f p q) env ts m led
  by_then f p q ts m (Offers ks) h l = (λ n. inl (h, l.0 n), l.1)
  by_then f p q ts m Ends h l = λ n. inl (h, l n)
  by_then f p q ts m (Calls k vs) h l = record { definition = l.definition; its = l.its; as_many = l.as_many; later = λ g from. l.later g from.0; can = l.can; few = l.few; settles = λ n ws o s. inl (h, l.settles n ws o s) }

  by_else : (f : FormulaTree) (p q : ProcessTree) (ts : List Bool) (m : ℕ) (led : Led) → (¬ Holds (set_sizes y) env f []) → LedBy y c ps q env ts m led → LedBy y c ps (If f p q) env ts m led
  by_else f p q ts m (Offers ks) h l = (λ n. inr (h, l.0 n), l.1)
  by_else f p q ts m Ends h l = λ n. inr (h, l n)
  by_else f p q ts m (Calls k vs) h l = record { definition = l.definition; its = l.its; as_many = l.as_many; later = λ g from. l.later g from.1; can = l.can; few = l.few; settles = λ n ws o s. inr (h, l.settles n ws o s) }

  by_left : (p q : ProcessTree) (ts : List Bool) (m : ℕ) (led : Led) → LedBy y c ps p env ts m led → LedBy y c ps (Internal p q) env (false ∷ ts) m led
  by_left p q ts m (Offers ks) l = l
  by_left p q ts m Ends l = l
  by_left p q ts m (Calls k vs) l = record { definition = l.definition; its = l.its; as_many = l.as_many; later = λ g from. l.later g from.0; can = l.can; few = l.few; settles = l.settles }

  by_right : (p q : ProcessTree) (ts : List Bool) (m : ℕ) (led : Led) → LedBy y c ps q env ts m led → LedBy y c ps (Internal p q) env (true ∷ ts) m led
  by_right p q ts m (Offers ks) l = l
  by_right p q ts m Ends l = l
  by_right p q ts m (Calls k vs) l = record { definition = l.definition; its = l.its; as_many = l.as_many; later = λ g from. l.later g from.1; can = l.can; few = l.few; settles = l.settles }

  pub led_then : (f : FormulaTree) (p q : ProcessTree) (old new : List Bool) (led : Led) → Holds (set_sizes y) env f [] → LedFrom y c ps p env old new led → LedFrom y c ps (If f p q) env old new led
  led_then f p q old new led h l = (l.0, (l.1.0, by_then f p q l.0 (length new) led h l.1.1))

  pub led_else : (f : FormulaTree) (p q : ProcessTree) (old new : List Bool) (led : Led) → (¬ Holds (set_sizes y) env f []) → LedFrom y c ps q env old new led → LedFrom y c ps (If f p q) env old new led
  led_else f p q old new led h l = (l.0, (l.1.0, by_else f p q l.0 (length new) led h l.1.1))

  pub led_left : (p q : ProcessTree) (old mid new : List Bool) (led : Led) → mid ≡ old ++ false ∷ [] → LedFrom y c ps p env mid new led → LedFrom y c ps (Internal p q) env old new led
  led_left p q old mid new led is l = (false ∷ l.0, (l.1.0 ∙ ap (λ (xs : List Bool). xs ++ l.0) is ∙ append_assoc old (false ∷ []) l.0, by_left p q l.0 (length new) led l.1.1))

  pub led_right : (p q : ProcessTree) (old mid new : List Bool) (led : Led) → mid ≡ old ++ true ∷ [] → LedFrom y c ps q env mid new led → LedFrom y c ps (Internal p q) env old new led
  led_right p q old mid new led is l = (true ∷ l.0, (l.1.0 ∙ ap (λ (xs : List Bool). xs ++ l.0) is ∙ append_assoc old (true ∷ []) l.0, by_right p q l.0 (length new) led l.1.1))

  pub led_here : (p : ProcessTree) (old : List Bool) (led : Led) → LedBy y c ps p env [] (length old) led → LedFrom y c ps p env old old led
  led_here p old led l = ([], (sym (append-nil old), l))

-- ---- answers

pub on_ok : {T E P Q : Type 0} (r : Result T E) → OnOk r P → (P → Q) → OnOk r Q
on_ok (Ok v) p f = f p
on_ok (Err e) p f = tt

pub if_ok : {T E : Type 0} (r : Result T E) (P Q : T → Type 0) → IfOk r P → ((v : T) → P v → Q v) → IfOk r Q
if_ok (Ok v) P Q p f = f v p
if_ok (Err e) P Q p f = p

pub holds_then : (b : Bool) (P : Type 0) → (IsTrue b ↔ P) → b ≡ true → P
holds_then b P m e = m.0 e

pub fails_then : (b : Bool) (P : Type 0) → (IsTrue b ↔ P) → b ≡ false → (¬ P)
fails_then b P m e h = absurd (let t : b ≡ true = m.1 h in cc)

-- the process at a node's place
pub node_part : (ps : List ProcessTree) (k : ℕ) (n m : Node) → slice_get ps k ≡ Some (tree_of ps n) → n ≡ m → part ps k ≡ tree_of ps m
node_part ps k n m at is = ap (λ o. unwrap_or o Stop) at ∙ ap (tree_of ps) is

pub led_offers : (y : System) (c : Controller) (ps : List ProcessTree) (env : Look) (p : ProcessTree) (old : List Bool) (ks : List ℕ) → Adds (set_sizes y) ps p env [] ks → LedFrom y c ps p env old old (Offers ks)
led_offers y c ps env p old ks a = (
  [],
  (
    sym (append-nil old),
    (
      λ n. subst (λ l. Settles (set_sizes y) c.definitions n p env [] (Offering (branches_at ps l env))) (sym a.1.0) (a.1.1.settles c.definitions n),
      subst (ArePrefixes ps) (sym a.1.0) a.1.1.prefixes,
    ),
  ),
)

pub below_part : (n : Node) (k : ℕ) (m : Node) → PartsBelow k n → n ≡ m → PartsBelow k m
below_part n k m b is = subst (PartsBelow k) is b

pub longer : (old new : List Bool) (b : Bool) → new ≡ old ++ b ∷ [] → length new ≡ length old + 1
longer old new b is = ap length is ∙ length-append old (b ∷ [])

-- ---- the loop over calls

module _ (y : System) (c : Controller) (ps : List ProcessTree) (place : ℕ) (env : Writes) where
  pub going_start : (sides : List Bool) → sides ≡ [] → place < length ps → CanResolve y c (part ps place) (look_of env) → Going y c ps place env 0 place None sides
  going_start sides is within can = rw is (record {
    few_calls = omega arith;
    within = within;
    can = can;
    few = λ n k w. let few = can.fine.few_silent n k w in omega (arith, few);
    from = from_zero (part ps place);
    leads = λ n ws o s. (n, s);
  })

  pub going_on : (count at at' k : ℕ) (own : Option Writes) (own' : Writes) (vs : List Value) (old new : List Bool) → Going y c ps place env count at own old →
      LedFrom y c ps (part ps at) (look_of (here_of env own)) old new (Calls k vs) → IsEntered c ps k vs at' own' → Going y c ps place env (count + 1) at' (Some own') new
  going_on count at at' k own own' vs old new h led entered =
      let go = led.1.1 in
      let d = entered.0 in
      let same : go.definition ≡ d = ap (λ o. unwrap_or o d) (sym go.its ∙ entered.1.0) in
      let low : count ≤ k = go.later count h.from in
      let high : k < length c.definitions = slice_get_within c.definitions k d entered.1.0 in
      let body : d.body ≡ part ps at' = sym (part_is ps at' d.body entered.1.1) in
      let can : CanResolve y c d.body (bound_look (names d.params) vs) = subst (λ (e : Definition). CanResolve y c e.body (bound_look (names e.params) vs)) same go.can in
      let settles : (n : ℕ) (ws : List Bool) (o : ControlView) → Settles (set_sizes y) c.definitions n d.body (bound_look (names d.params) vs) ws o →
      Settles (set_sizes y) c.definitions (suc n) (part ps at) (look_of (here_of env own)) (led.0 ++ ws) o =
      subst (λ (e : Definition). (n : ℕ) (ws : List Bool) (o : ControlView) → Settles (set_sizes y) c.definitions n e.body (bound_look (names e.params) vs) ws o →
      Settles (set_sizes y) c.definitions (suc n) (part ps at) (look_of (here_of env own)) (led.0 ++ ws) o) same go.settles in
      record {
        few_calls = omega (arith, low, high);
        within = slice_get_within ps at' d.body entered.1.1;
        can = subst (CanResolve y c (part ps at')) (sym entered.1.2) (subst (λ p. CanResolve y c p (bound_look (names d.params) vs)) body can);
        few = subst (λ p. FewLeft c.definitions p (length new)) body (subst (λ (e : Definition). FewLeft c.definitions e.body (length new)) same go.few);
        from = subst (CallsFrom (count + 1)) body (from_less (count + 1) (suc k) d.body (omega (arith, low)) (later_from k d.body ((h.can.typed.controllers h.can.number c h.can.its).definitions k d entered.1.0).calls_later));
        leads = λ n ws o s.
            let s' = subst (λ p. Settles (set_sizes y) c.definitions n p (bound_look (names d.params) vs) ws o) (sym body) (subst (λ l. Settles (set_sizes y) c.definitions n (part ps at') l ws o) entered.1.2 s) in
            let r = h.leads (suc n) (led.0 ++ ws) o (settles n ws o s') in
            (r.0, subst (λ l. Settles (set_sizes y) c.definitions r.0 (part ps place) (look_of env) l o) (sym (ap (λ (l : List Bool). l ++ ws) led.1.0 ∙ append_assoc old led.0 ws)) r.1);
      }

  settled : (count at : ℕ) (own : Option Writes) (old new ts : List Bool) (outcome : Outcome) (bits : ℕ) → Going y c ps place env count at own old → new ≡ old ++ ts →
      Settles (set_sizes y) c.definitions 0 (part ps at) (look_of (here_of env own)) ts (outcome_of ps env outcome) → bits ≡ number_of new → ShowsPrefixes ps outcome →
      IsSettled y c ps (part ps place) env outcome bits
  settled count at own old new ts outcome bits h is s bits_are prefixes =
      let r = h.leads 0 ts (outcome_of ps env outcome) s in
      record {
        depth = r.0;
        sides = new;
        settles = subst (λ l. Settles (set_sizes y) c.definitions r.0 (part ps place) (look_of env) l (outcome_of ps env outcome)) (sym is) r.1;
        bits_are = bits_are;
        prefixes = prefixes;
      }

  pub settled_over : (count at : ℕ) (own : Option Writes) (old new : List Bool) (bits : ℕ) → Going y c ps place env count at own old →
      LedFrom y c ps (part ps at) (look_of (here_of env own)) old new Ends → bits ≡ number_of new → IsSettled y c ps (part ps place) env Over bits
  settled_over count at own old new bits h led bits_are = settled count at own old new led.0 Over bits h led.1.0 (led.1.1 0) bits_are tt

  pub settled_shown : (count at : ℕ) (own : Option Writes) (old new : List Bool) (ks : List ℕ) (bits : ℕ) → Going y c ps place env count at own old →
      LedFrom y c ps (part ps at) (look_of (here_of env own)) old new (Offers ks) → bits ≡ number_of new → IsSettled y c ps (part ps place) env (Shown ks own) bits
  settled_shown count at own old new ks bits h led bits_are =
      settled count at own old new led.0 (Shown ks own) bits h led.1.0 (led.1.1.0 0) bits_are led.1.1.1

  -- each call is of a later definition, so there are no more calls than definitions
  pub too_far : (count at k : ℕ) (own : Option Writes) (vs : List Value) (old new : List Bool) → Going y c ps place env count at own old →
      LedFrom y c ps (part ps at) (look_of (here_of env own)) old new (Calls k vs) → length c.definitions ≤ count → ⊥
  too_far count at k own vs old new h led all =
      let go = led.1.1 in
      omega (arith, go.later count h.from, slice_get_within c.definitions k go.definition go.its, all)
