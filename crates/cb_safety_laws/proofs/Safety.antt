-- A sound system is safe.
use Rattle.std.proofs.Common.{◌≡◌, ◌<◌, ℕ, zero, suc, ◌==◌, Bool, true, false, List, [], ◌∷◌, ◌++◌, length, Contains, slice_get, slice_set, refl, sym, ap, ◌∙◌, subst, ◌⊎◌, inl, inr, arith}
use Rattle.std.proofs.lemmas.Bool.{eqb-true, eqb-false, false_from_ne_true}
use Rattle.cb_term.specs.declared.name.Name.{Name}
use Rattle.cb_term.specs.declared.value.Value.{Value}
use Rattle.cb_term.specs.Tree.{TermTree}
use Rattle.cb_term.specs.Values.{Look, nothing}
use Rattle.cb_term.specs.Holds.{Holds}
use Rattle.cb_spec.specs.declared.event.Event.TheVariants as event
use Rattle.cb_spec.specs.declared.system.Channel.{Channel}
use Rattle.cb_spec.specs.declared.system.Controller.{Controller}
use Rattle.cb_spec.specs.declared.system.Machine.{Machine}
use Rattle.cb_spec.specs.declared.system.Operation.{Operation}
use Rattle.cb_spec.specs.declared.system.System.{System}
use Rattle.cb_spec.specs.declared.state.Entry.{Entry}
use Rattle.cb_spec.specs.declared.state.Entry.TheVariants as entry
use Rattle.cb_spec.specs.ProcessTree.{ProcessTree, Stop, Skip, Call, Prefix, Choice, Internal, If}
use Rattle.cb_spec.specs.Stores.{Writes, over, empty, look_of, SameMap}
use Rattle.cb_spec.specs.Bound.{names, is_among, bind, bound_look, only, AreOfKinds, AreIn, GivesKinds}
use Rattle.cb_spec.specs.Runs.{Runs}
use Rattle.cb_spec.specs.Machines.{with_args, kept}
use Rattle.cb_spec.specs.States.{IsAt, BranchView, ControlView, AtProcess, Offering, StateView}
use Rattle.cb_spec.specs.Settling.{AreValues, Settles}
use Rattle.cb_spec.specs.Journals.{set_sizes, IsNumbered, results_after, Settling, Operating, Passing, Step, Begun, begin_at, beginning}
use Rattle.cb_spec.specs.Safe.{Invariants, Promised}
use Rattle.cb_spec.specs.TypedProcesses.{scope_of, scope_at, scope_with, result_forms}
use Rattle.cb_spec.specs.Typed.{global_names, own_scope, Typed}
use Rattle.cb_spec.specs.Sound.{OwnHold, Sound, FineProcess, FineControl, FitState}
use Rattle.cb_spec.proofs.StoreLemmas.{over_is, or_look}
use Rattle.cb_eval.specs.TypedIn.{AreSmallSets}
use Rattle.cb_obligations.proofs.Calls.{kept_is}
use Rattle.cb_typed.proofs.Fitting.{keeps_of_typed}
use Rattle.cb_typed.proofs.Naming.{new_differ}
use Rattle.cb_safety_laws.specs.Laws.{FitBegins, FitIsKept}
use Rattle.cb_safety_laws.proofs.Lists.{has_at, two_at, there, at_below, contains_at, at_set, at_map, set_length, map_length, one_part}
use Rattle.cb_safety_laws.proofs.Agreement.{AgreeOn, formula_agrees, declared_in, own_from, control_agrees}
use Rattle.cb_safety_laws.proofs.Forms.{agrees_with, agrees_input, args_in, args_of_kinds, small_sets, results_of_forms}
use Rattle.cb_safety_laws.proofs.Parts.{call_few, one_numbered, append_fine, fine_branch, matched_rest, guarantee_asserts, assertion_allows, choice_left, choice_right, internal_left, internal_right, if_then, if_else, body_fine}
use Rattle.cb_safety_laws.proofs.Begin.{kept_other, kinds_agree, variables_apart, starts}

module _ (y : System) (typed : Typed y) (sound : Sound y) where
  abbrev sizes : List ℕ
  sizes = set_sizes y

  small : AreSmallSets (set_sizes y)
  small = small_sets y typed

  pub own_hold : (s : StateView) → FitState y s → (c : Controller) → OwnHold y c s.store
  own_hold s fit c = record { kinds = λ k m own at. fit.kinds k m at; invariants = λ k m own at. fit.invariants k m at }

  -- a control is of a controller
  pub numbered : (s : StateView) → FitState y s → (i : ℕ) (k : ControlView) → IsAt s.controls i k → (c : Controller) × IsNumbered y i c
  numbered s fit i k e =
      let l = at_below s.controls i k e in
      let placed = fit.placed in
      let below : i < length y.order = omega (arith, l, placed) in
      let p = there y.order i below in
      let c = there y.controllers p.0 (typed.order_within i p.0 p.1) in
      (c.0, (p.0, (p.1, c.1)))

  -- a control is changed
  set_fine : (cs : List ControlView) (store : Look) (i : ℕ) (c : Controller) (k : ControlView) → IsNumbered y i c →
      ((j : ℕ) (e : Controller) (l : ControlView) → (j ≡ i → ⊥) → IsNumbered y j e → IsAt cs j l → FineControl y j e l store) → FineControl y i c k store →
      (j : ℕ) (e : Controller) (l : ControlView) → IsNumbered y j e → IsAt (slice_set cs i k) j l → FineControl y j e l store
  set_fine cs store i c k num old new j e l n at = by (at_set cs i k j l at)
    where
      by : ((j ≡ i) × (l ≡ k)) ⊎ ((j ≡ i → ⊥) × IsAt cs j l) → FineControl y j e l store
      by (inl p) =
          let same : e ≡ c = one_numbered y i e c (subst (λ z. IsNumbered y z e) p.0 n) num in
          subst (λ z. FineControl y z e l store) (sym p.0) (subst (λ z. FineControl y i z l store) (sym same) (subst (λ z. FineControl y i c z store) (sym p.1) new))
      by (inr p) = old j e l p.0 n p.1

  -- ---- a process is resolved

  module _ (i : ℕ) (c : Controller) (num : IsNumbered y i c) (store : Look) (own : OwnHold y c store) where
    settled_fine : (n : ℕ) (p : ProcessTree) (env : Look) (sides : List Bool) (k : ControlView) → Settles (set_sizes y) c.definitions n p env sides k → FineProcess y i c p env store → FineControl y i c k store
    settled_fine n Stop env sides k r f = subst (λ z. FineControl y i c z store) (sym r.1) tt
    settled_fine n Skip env sides k r f = subst (λ z. FineControl y i c z store) (sym r.1) tt
    settled_fine n (Prefix e p) env sides k r f = subst (λ z. FineControl y i c z store) (sym r.1) (f, tt)
    settled_fine n (Choice p q) env sides k r f =
        let u = settled_fine n p env r.1.1.0 (Offering r.0) r.1.1.1.1.0 (choice_left y i c env store p q f) in
        let v = settled_fine n q env r.1.1.1.0 (Offering r.1.0) r.1.1.1.1.1 (choice_right y i c env store p q f) in
        subst (λ z. FineControl y i c z store) (sym r.1.1.1.1.3) (append_fine y i c store r.0 r.1.0 u v)
    settled_fine n (Internal p q) env [] k r f = absurd r
    settled_fine n (Internal p q) env (false ∷ sides) k r f = settled_fine n p env sides k r (internal_left y i c env store p q f)
    settled_fine n (Internal p q) env (true ∷ sides) k r f = settled_fine n q env sides k r (internal_right y i c env store p q f)
    settled_fine n (If g p q) env sides k (inl r) f = settled_fine n p env sides k r.1 (if_then y i c env store g p q r.0 f)
    settled_fine n (If g p q) env sides k (inr r) f = settled_fine n q env sides k r.1 (if_else y i c env store g p q r.0 f)
    settled_fine zero (Call j ts) env sides k r f = absurd r
    settled_fine (suc n) (Call j ts) env sides k r f =
        settled_fine n r.0.body (bound_look (names r.0.params) r.1.0) sides k r.1.1.2 (body_fine y typed sound i c num store own j ts env r.0 r.1.0 r.1.1.0 r.1.1.1 f)

  settle_keeps : (s t : StateView) (i bits : ℕ) → Settling y s i bits t → FitState y s → FitState y t
  settle_keeps s t i bits r fit =
      let f = fit.controls i r.controller (AtProcess r.process r.env) r.its r.from in
      let new = settled_fine i r.controller r.its s.store (own_hold s fit r.controller) r.depth r.process r.env r.sides r.outcome r.settles f in
      subst (λ z. FitState y z) (sym r.after) (record {
        placed = set_length s.controls i r.outcome ∙ fit.placed;
        kinds = fit.kinds;
        invariants = fit.invariants;
        controls = set_fine s.controls s.store i r.controller r.outcome r.its (λ j e l ne n at. fit.controls j e l n at) new;
      })

  -- ---- an operation is called

  -- what one controller's operation writes is nothing to the others
  apart : (i : ℕ) (c : Controller) (k : ℕ) (m : Machine) → IsNumbered y i c → Contains c.machines k → IsAt y.machines k m →
      (j : ℕ) (e : Controller) → IsNumbered y j e → (j ≡ i → ⊥) → (d : Writes) (store : Look) → AgreeOn (own_scope y e) store (kept m d store)
  apart i c k m num own at j e other ne d store x f known =
      let w = own_from y e.machines x f known in
      let o = contains_at c.machines k own in
      sym (kept_other (names m.variables) d store x (false_from_ne_true (is_among x (names m.variables)) (λ v.
      let same : w.1 ≡ k = variables_apart y typed w.1 k w.2 m x w.4 at w.5 v in
      let place : other.0 ≡ num.0 = one_part (λ (c : Controller). c.machines) y.controllers typed.one_owner other.0 num.0 e c w.0 o.0 k other.1.1 num.1.1 (subst (λ z. IsAt e.machines w.0 z) same w.3) o.1 in
      ne (typed.order_once j i num.0 (subst (λ z. IsAt y.order j z) place other.1.0) num.1.0))))

  -- the variables of another machine are as before
  elsewhere : (k l : ℕ) (m n : Machine) → IsAt y.machines k m → IsAt y.machines l n → (k ≡ l → ⊥) → (d : Writes) (store : Look) (x : Name) → is_among x (names n.variables) ≡ true → store x ≡ kept m d store x
  elsewhere k l m n at atn ne d store x i = sym (kept_other (names m.variables) d store x (false_from_ne_true (is_among x (names m.variables)) (λ v. ne (variables_apart y typed k l m n x at atn v i))))

  -- what holds of each machine holds after a change of one of them
  each_after : (P : Machine → Look → Type 0) (store : Look) (k : ℕ) (m : Machine) (d : Writes) → IsAt y.machines k m →
      ((l : ℕ) (n : Machine) → IsAt y.machines l n → ((x : Name) → is_among x (names n.variables) ≡ true → store x ≡ kept m d store x) → P n store → P n (kept m d store)) →
      ((l : ℕ) (n : Machine) → IsAt y.machines l n → P n store) → P m (kept m d store) → (l : ℕ) (n : Machine) → IsAt y.machines l n → P n (kept m d store)
  each_after P store k m d at frame old new l n atn = by (k == l) (eqb-true k l) (eqb-false k l)
    where
      by : (b : Bool) → (b ≡ true → k ≡ l) → (b ≡ false → k ≡ l → ⊥) → P n (kept m d store)
      by true same other =
          let is : m ≡ n = two_at y.machines l m n (subst (λ z. IsAt y.machines z m) (same refl) at) atn in
          subst (λ z. P z (kept m d store)) is new
      by false same other = frame l n atn (elsewhere k l m n at atn (other refl) d store) (old l n atn)

  -- what is known of a call that is offered
  pub record Called (s : StateView) (i k : ℕ) (m : Machine) (o : Operation) (args : List Value) (targets : List Name) (next : ProcessTree) (env : Look) : Type 0 where
    pub controller : Controller
    pub its : IsNumbered y i controller
    pub own : Contains controller.machines k
    pub kinds : AreOfKinds (set_sizes y) o.params args
    pub pre : Holds (set_sizes y) (with_args o args s.store) o.pre []
    pub after : (d : Writes) → Runs (set_sizes y) o.body (with_args o args s.store) d → Holds (set_sizes y) (kept m d s.store) m.invariant [] →
        FineProcess y i controller next (over (bind targets (results_after o d)) env) (kept m d s.store)

  pub called : (s : StateView) → FitState y s → (i b k j : ℕ) (branches : List BranchView) (terms : List TermTree) (targets : List Name) (next : ProcessTree) (env : Look) (m : Machine) (o : Operation) (args : List Value) →
      IsAt s.controls i (Offering branches) → IsAt branches b (record { event = event.Call k j terms targets; next = next; env = env }) →
      IsAt y.machines k m → IsAt m.operations j o → AreValues (set_sizes y) env terms args → Called s i k m o args targets next env
  called s fit i b k j branches terms targets next env m o args from offered at listed are =
      let here = numbered s fit i (Offering branches) from in
      let f = fine_branch y i here.0 s.store branches b (record { event = event.Call k j terms targets; next = next; env = env }) (fit.controls i here.0 (Offering branches) here.1 from) offered in
      let w = has_at (slice_get m.operations j) _ o (has_at (slice_get y.machines k) _ m f.typed.2 at) listed in
      let may = has_at (slice_get m.operations j) _ o (has_at (slice_get y.machines k) _ m f.sat at) listed args are in
      let kinds = args_of_kinds (set_sizes y) f.scope f.taken env small f.agrees o.params terms args w.0 are in
      record {
        controller = here.0;
        its = here.1;
        own = f.typed.0;
        kinds = kinds;
        pre = may.0;
        after = λ d run inv. record {
          scope = scope_with targets (result_forms (set_sizes y) m o) ++ f.scope;
          taken = targets ++ f.taken;
          typed = w.2;
          agrees = agrees_with (set_sizes y) targets (result_forms (set_sizes y) m o) (results_after o d) f.scope env (w.1 ∙ sym (forms_length o))
              (results_of_forms y typed k m at j o listed s.store args (fit.kinds k m at) (fit.invariants k m at) kinds may.0 d run) f.agrees;
          operands = f.operands;
          few_silent = f.few_silent_after.0;
          few_silent_after = f.few_silent_after.1;
          few_branches = let h = f.few_branches in omega (arith, h);
          matched = matched_rest y (event.Call k j terms targets) next f.matched;
          sat = may.1 d run inv;
        };
      }
    where
      forms_length : (o : Operation) → length (result_forms (set_sizes y) m o) ≡ length o.results
      forms_length o = map_length _ _ ∙ map_length _ _

  op_keeps : (s t : StateView) (i b k j : ℕ) (args results : List Value) (written : Writes) → Operating y s i b k j args results written t → FitState y s → FitState y t
  op_keeps s t i b k j args results written r fit =
      let m = r.machine in
      let o = r.operation in
      let q = called s fit i b k j r.branches r.terms r.targets r.next r.env m o args r.from r.offered r.its r.listed r.arguments in
      let run = r.runs q.pre in
      let d = run.0 in
      let inv = (sound.machines k m r.its).op j o r.listed s.store args d (fit.kinds k m r.its) q.kinds (fit.invariants k m r.its) q.pre run.1.0 in
      let kinds = (keeps_of_typed y typed k m r.its).stays j o r.listed s.store args d (fit.kinds k m r.its) q.kinds run.1.0 in
      let main : FitState y (record { store = kept m d s.store; controls = slice_set s.controls i (AtProcess r.next (over (bind r.targets (results_after o d)) r.env)) }) = record {
        placed = set_length s.controls i (AtProcess r.next (over (bind r.targets (results_after o d)) r.env)) ∙ fit.placed;
        kinds = each_after (λ n look. GivesKinds (set_sizes y) n.variables look) s.store k m d r.its (λ l n atn on h. kinds_agree (set_sizes y) n.variables s.store (kept m d s.store) on h) fit.kinds kinds;
        invariants = each_after (λ n look. Holds (set_sizes y) look n.invariant []) s.store k m d r.its
            (λ l n atn on h. formula_agrees (set_sizes y) (scope_of n.variables) (global_names y) s.store (kept m d s.store) (λ x f e. on x (declared_in n.variables x f e)) n.invariant (typed.machines l n atn).invariant h)
            fit.invariants inv;
        controls = set_fine s.controls (kept m d s.store) i q.controller (AtProcess r.next (over (bind r.targets (results_after o d)) r.env)) q.its
            (λ l e c ne n at. control_agrees y typed l e n c s.store (kept m d s.store) (apart i q.controller k m q.its q.own r.its l e n ne d s.store) (fit.controls l e c n at))
            (q.after d run.1.0 inv);
      } in
      let same : over written s.store ≡ kept m d s.store = λ e x. (over_is written s.store x ∙ ap (λ p. or_look p (s.store x)) (run.1.2 x) ∙ sym (over_is (only (names m.variables) d) s.store x)) e in
      subst (λ z. FitState y z) (sym r.after)
      (subst (λ w. FitState y (record { store = w; controls = slice_set s.controls i (AtProcess r.next (over (bind r.targets results) r.env)) })) (sym same)
      (subst (λ vs. FitState y (record { store = kept m d s.store; controls = slice_set s.controls i (AtProcess r.next (over (bind r.targets vs) r.env)) })) (sym run.1.1) main))

  op_promised : (s t : StateView) (i b k j : ℕ) (args results : List Value) (written : Writes) → Operating y s i b k j args results written t → FitState y s → Promised y s (entry.Op i b k j args results written)
  op_promised s t i b k j args results written r fit m o at listed =
      (called s fit i b k j r.branches r.terms r.targets r.next r.env m o args r.from r.offered at listed r.arguments).pre

  -- ---- values pass a channel

  -- what is known of what is sent
  record Sent (s : StateView) (ch : Channel) (vs : List Value) (next : ProcessTree) (env : Look) : Type 0 where
    pub controller : Controller
    pub its : IsNumbered y ch.sender controller
    pub kinds : AreOfKinds (set_sizes y) ch.values vs
    pub within : AreIn (set_sizes y) ch.values vs
    pub asserted : Holds (set_sizes y) (bound_look (names ch.values) vs) ch.assertion []
    pub after : FineProcess y ch.sender controller next env s.store

  sent_out : (s t : StateView) (k sent got : ℕ) (vs : List Value) (r : Passing y s k sent got vs t) → FitState y s → Sent s r.channel vs r.out_next r.out_env
  sent_out s t k sent got vs r fit =
      let ch = r.channel in
      let here = numbered s fit ch.sender (Offering r.outs) r.sender in
      let f = fine_branch y ch.sender here.0 s.store r.outs sent (record { event = event.Output k r.terms r.guarantee; next = r.out_next; env = r.out_env }) (fit.controls ch.sender here.0 (Offering r.outs) here.1 r.sender) r.out in
      let w = has_at (slice_get y.channels k) _ ch f.typed.0 r.its in
      let kinds = args_of_kinds (set_sizes y) f.scope f.taken r.out_env small f.agrees ch.values r.terms vs w.1 r.sent_values in
      let owed = has_at (slice_get y.channels k) _ ch f.sat.0 r.its vs r.sent_values in
      let asserted = guarantee_asserts y k r.terms r.guarantee r.out_next ch vs f.matched r.its kinds owed in
      let tc = typed.channels k ch r.its in
      record {
        controller = here.0;
        its = here.1;
        kinds = kinds;
        within = args_in (set_sizes y) ch.values vs ch.assertion empty (new_differ (global_names y) (names ch.values) tc.new_names) kinds tc.domains asserted;
        asserted = asserted;
        after = record {
          scope = f.scope;
          taken = f.taken;
          typed = f.typed.1;
          agrees = f.agrees;
          operands = f.operands;
          few_silent = f.few_silent_after.0;
          few_silent_after = f.few_silent_after.1;
          few_branches = let h = f.few_branches in omega (arith, h);
          matched = matched_rest y (event.Output k r.terms r.guarantee) r.out_next f.matched;
          sat = f.sat.1;
        };
      }

  pass_promised : (s t : StateView) (k sent got : ℕ) (vs : List Value) → Passing y s k sent got vs t → FitState y s → Promised y s (entry.Pass k sent got vs)
  pass_promised s t k sent got vs r fit ch at =
      subst (λ (z : Channel). Holds (set_sizes y) (bound_look (names z.values) vs) z.assertion []) (two_at y.channels k r.channel ch r.its at) (sent_out s t k sent got vs r fit).asserted

  pass_keeps : (s t : StateView) (k sent got : ℕ) (vs : List Value) → Passing y s k sent got vs t → FitState y s → FitState y t
  pass_keeps s t k sent got vs r fit =
      let ch = r.channel in
      let out = sent_out s t k sent got vs r fit in
      let here = numbered s fit ch.receiver (Offering r.ins) r.receiver in
      let f = fine_branch y ch.receiver here.0 s.store r.ins got (record { event = event.Input k r.targets r.assume; next = r.in_next; env = r.in_env }) (fit.controls ch.receiver here.0 (Offering r.ins) here.1 r.receiver) r.into in
      let w = has_at (slice_get y.channels k) _ ch f.typed.1 r.its in
      let go = has_at (slice_get y.channels k) _ ch f.sat r.its vs (assertion_allows y k r.targets r.assume r.in_next ch vs f.matched r.its out.kinds out.within out.asserted) in
      let new : FineProcess y ch.receiver here.0 r.in_next (over (bind r.targets vs) r.in_env) s.store = record {
        scope = scope_at r.targets ch.values ++ f.scope;
        taken = r.targets ++ f.taken;
        typed = w.3;
        agrees = agrees_input (set_sizes y) r.targets ch.values vs f.scope r.in_env w.1 out.within f.agrees;
        operands = f.operands;
        few_silent = f.few_silent_after.0;
        few_silent_after = f.few_silent_after.1;
        few_branches = let h = f.few_branches in omega (arith, h);
        matched = matched_rest y (event.Input k r.targets r.assume) r.in_next f.matched;
        sat = go;
      } in
      let sender = AtProcess r.out_next r.out_env in
      let one = set_fine s.controls s.store ch.sender out.controller sender out.its (λ j e l ne n at. fit.controls j e l n at) out.after in
      subst (λ z. FitState y z) (sym r.after) (record {
        placed = set_length (slice_set s.controls ch.sender sender) ch.receiver (AtProcess r.in_next (over (bind r.targets vs) r.in_env)) ∙ set_length s.controls ch.sender sender ∙ fit.placed;
        kinds = fit.kinds;
        invariants = fit.invariants;
        controls = set_fine (slice_set s.controls ch.sender sender) s.store ch.receiver here.0 (AtProcess r.in_next (over (bind r.targets vs) r.in_env)) here.1 (λ j e l ne n at. one j e l n at) new;
      })

  -- ---- an entry

  pub step_keeps : (limit : ℕ) (past : List Entry) (s : StateView) (e : Entry) (t : StateView) → Step y limit past s e t → FitState y s → FitState y t
  step_keeps limit past s (entry.Settle i bits) t r fit = settle_keeps s t i bits r.2 fit
  step_keeps limit past s (entry.Op i b k j args results written) t r fit = op_keeps s t i b k j args results written r.2 fit
  step_keeps limit past s (entry.Pass k sent got vs) t r fit = pass_keeps s t k sent got vs r.2 fit
  step_keeps limit past s (entry.End c) t r fit = subst (λ z. FitState y z) (sym r.2) fit

  pub step_promised : (limit : ℕ) (past : List Entry) (s : StateView) (e : Entry) (t : StateView) → Step y limit past s e t → FitState y s → Promised y s e
  step_promised limit past s (entry.Settle i bits) t r fit = tt
  step_promised limit past s (entry.Op i b k j args results written) t r fit = op_promised s t i b k j args results written r.2 fit
  step_promised limit past s (entry.Pass k sent got vs) t r fit = pass_promised s t k sent got vs r.2 fit
  step_promised limit past s (entry.End c) t r fit = tt

  -- ---- the beginning

  pub begins_fit : (s0 d : Writes) → Begun (set_sizes y) y.machines d → SameMap s0 d → FitState y (beginning y s0)
  begins_fit s0 d begun same =
      let store = look_of s0 in
      let on : (k : ℕ) (m : Machine) (at : IsAt y.machines k m) (x : Name) → is_among x (names m.variables) ≡ true → look_of s0 x ≡ kept m (starts y typed d begun k m at).0 empty x =
      λ k m at x i.
      let w = starts y typed d begun k m at in
      over_is s0 empty x ∙ ap (λ o. or_look o nothing) (same x ∙ w.2 x i) ∙ sym (kept_is (names m.variables) w.0 empty x i ∙ over_is w.0 empty x) in
      let kinds : (k : ℕ) (m : Machine) → IsAt y.machines k m → GivesKinds (set_sizes y) m.variables (look_of s0) =
      λ k m at.
      let w = starts y typed d begun k m at in
      kinds_agree (set_sizes y) m.variables (kept m w.0 empty) (look_of s0) (λ x i. sym (on k m at x i)) ((keeps_of_typed y typed k m at).begins w.0 w.1) in
      let invariants : Invariants y (look_of s0) =
      λ k m at.
      let w = starts y typed d begun k m at in
      formula_agrees (set_sizes y) (scope_of m.variables) (global_names y) (kept m w.0 empty) (look_of s0) (λ x f e. sym (on k m at x (declared_in m.variables x f e))) m.invariant
      (typed.machines k m at).invariant ((sound.machines k m at).init w.0 w.1) in
      let start : (i : ℕ) (c : Controller) → IsNumbered y i c → FineProcess y i c (Call c.start c.start_args) empty (look_of s0) =
      λ i c n. record {
        scope = [];
        taken = global_names y;
        typed = (typed.controllers i c n).start;
        agrees = λ x f e. cc;
        operands = tt;
        few_silent = call_few c.definitions c.start c.start_args (λ d at. ((typed.controllers i c n).definitions c.start d at).few_silent);
        few_silent_after = tt;
        few_branches = omega arith;
        matched = tt;
        sat = (sound.controllers n.0 c n.1.1).start (look_of s0) (λ k m own at. let w = starts y typed d begun k m at in (w.0, (w.1, on k m at)))
            (record { kinds = λ k m own at. kinds k m at; invariants = λ k m own at. invariants k m at });
      } in
      record {
        placed = map_length (λ k. begin_at (slice_get y.controllers k)) y.order;
        kinds = kinds;
        invariants = invariants;
        controls = λ i c k n e.
            let f = at_map (λ k. begin_at (slice_get y.controllers k)) y.order i k e in
            let here : k ≡ AtProcess (Call c.start c.start_args) empty = f.2 ∙ ap (λ a. begin_at (slice_get y.controllers a)) (two_at y.order i f.0 n.0 f.1 n.1.0) ∙ ap begin_at n.1.1 in
            subst (λ z. FineControl y i c z (look_of s0)) (sym here) (start i c n);
      }

pub fit_begins : FitBegins
fit_begins y typed sound s0 d begun same = begins_fit y typed sound s0 d begun same

pub fit_is_kept : FitIsKept
fit_is_kept y typed sound limit past s e t r fit = step_keeps y typed sound limit past s e t r fit
