-- What a controller may do depends on its own machines' variables alone.
use Rattle.std.proofs.Common.{◌≡◌, ℕ, zero, suc, Bool, true, false, ◌||◌, List, [], ◌∷◌, ◌++◌, flat_map, Contains, slice_get, Option, Some, None, ◌⊎◌, inl, inr, refl, sym, ap, ◌∙◌, subst, if◌then◌else◌}
use Rattle.cb_term.specs.declared.name.Name.{Name}
use Rattle.cb_term.specs.declared.kind.Kind.{Kind}
use Rattle.cb_term.specs.declared.value.Value.{Value}
use Rattle.cb_term.specs.Names.{same_name}
use Rattle.cb_term.specs.Tree.{FormulaTree}
use Rattle.cb_term.specs.Values.{Look, nothing}
use Rattle.cb_term.specs.Holds.{Holds}
use Rattle.cb_term.proofs.FreeLemmas.{agree_holds}
use Rattle.cb_seq.proofs.KindLemmas.{fits_not_free}
use Rattle.cb_spec.specs.declared.event.Event.TheVariants as event
use Rattle.cb_spec.specs.declared.system.Controller.{Controller}
use Rattle.cb_spec.specs.declared.system.Declared.{Declared}
use Rattle.cb_spec.specs.declared.system.Machine.{Machine}
use Rattle.cb_spec.specs.declared.system.System.{System}
use Rattle.cb_spec.specs.SubstTree.{SubstTree}
use Rattle.cb_spec.specs.ProcessTree.{ProcessTree, Stop, Skip, Call, Prefix, Choice, Internal, If}
use Rattle.cb_spec.specs.Stores.{Writes, found, over}
use Rattle.cb_spec.specs.Bound.{names, result_names, is_among, bind, only}
use Rattle.cb_spec.specs.Runs.{Runs}
use Rattle.cb_spec.specs.Machines.{with_args, kept}
use Rattle.cb_spec.specs.Forms.{Form, form_of_domain}
use Rattle.cb_spec.specs.States.{IsAt, BranchView, ControlView, AtProcess, Offering, Done}
use Rattle.cb_spec.specs.Journals.{set_sizes, IsNumbered, results_after}
use Rattle.cb_spec.specs.TypedTerms.{Scope, form_in, TypedFormula}
use Rattle.cb_spec.specs.TypedSubsts.{TypedSubst}
use Rattle.cb_spec.specs.TypedProcesses.{scope_of, scope_at, scope_in, scope_with, result_forms, TypedProcess}
use Rattle.cb_spec.specs.Typed.{global_names, variables_of, own_scope, targets_of, Typed}
use Rattle.cb_spec.specs.Sound.{Sat, FineProcess, FineBranches, FineControl}
use Rattle.cb_spec.proofs.RunLemmas.{runs_agree}
use Rattle.cb_spec.proofs.StoreLemmas.{over_is, or_look}
use Rattle.cb_typed.specs.Erasure.{kinds_in}
use Rattle.cb_typed.proofs.Erasing.{formula_fits}
use Rattle.cb_typed.proofs.Naming.{form_none, reads_known}
use Rattle.cb_safety_laws.proofs.Lists.{some_map, some_both, contains_at}

-- ---- known names

-- the look-ups agree on the known names
abbrev pub AgreeOn : Scope → Look → Look → Type 0
AgreeOn scope look look' = (x : Name) (f : Form) → form_in scope x ≡ Some f → look x ≡ look' x

pub agree_back : (scope : Scope) (look look' : Look) → AgreeOn scope look look' → AgreeOn scope look' look
agree_back scope look look' a x f e = sym (a x f e)

at_known : (scope : Scope) (look look' : Look) → AgreeOn scope look look' → (x : Name) → (form_in scope x ≡ None → ⊥) → look x ≡ look' x
at_known scope look look' a x n = by (form_in scope x) refl
  where
    by : (o : Option Form) → form_in scope x ≡ o → look x ≡ look' x
    by None e = absurd (n e)
    by (Some f) e = a x f e

pub formula_agrees : (sizes : List ℕ) (scope : Scope) (taken : List Name) (look look' : Look) → AgreeOn scope look look' → (f : FormulaTree) →
    TypedFormula sizes scope taken [] f → Holds sizes look f [] → Holds sizes look' f []
formula_agrees sizes scope taken look look' a f w h =
    (agree_holds sizes look look' ⊥ f [] (λ x e. at_known scope look look' a x (λ n.
    fits_not_free sizes (kinds_in scope) x (form_none scope x n) f [] (formula_fits sizes scope taken f [] w) e))).0 h

pub run_agrees : (sizes : List ℕ) (targets : List (Name × Kind)) (scope : Scope) (taken : List Name) (look look' : Look) → AgreeOn scope look look' → (s : SubstTree) →
    TypedSubst sizes targets scope taken s → (d : Writes) → Runs sizes s look d → Runs sizes s look' d
run_agrees sizes targets scope taken look look' a s w d r =
    runs_agree sizes s look look' (λ x e. at_known scope look look' a x (λ n. reads_known sizes targets x s scope taken w n e)) d r

-- ---- what is written

pub over_agrees : (d : Writes) (s t : Look) (x : Name) → s x ≡ t x → over d s x ≡ over d t x
over_agrees d s t x e = over_is d s x ∙ ap (or_look (found d x)) e ∙ sym (over_is d t x)

bind_step : (b r : Bool) (v m n : Value) (A : Type 0) → ((b || r) ≡ true) ⊎ A → ((r ≡ true) ⊎ A → m ≡ n) → (if b then v else m) ≡ (if b then v else n)
bind_step true r v m n A h k = refl
bind_step false r v m n A h k = k h

bind_agrees : (xs : List Name) (vs : List Value) (s t : Look) (x : Name) → (is_among x xs ≡ true) ⊎ (s x ≡ t x) → over (bind xs vs) s x ≡ over (bind xs vs) t x
bind_agrees [] vs s t x (inl e) = cc
bind_agrees [] vs s t x (inr e) = e
bind_agrees (y ∷ xs) [] s t x h = bind_step (same_name x y) (is_among x xs) nothing (over (bind xs []) s x) (over (bind xs []) t x) (s x ≡ t x) h (bind_agrees xs [] s t x)
bind_agrees (y ∷ xs) (v ∷ vs) s t x h = bind_step (same_name x y) (is_among x xs) v (over (bind xs vs) s x) (over (bind xs vs) t x) (s x ≡ t x) h (bind_agrees xs vs s t x)

form_parts : (ds : List Declared) (rest : Scope) (x : Name) (f : Form) → form_in (scope_of ds ++ rest) x ≡ Some f → (is_among x (names ds) ≡ true) ⊎ (form_in rest x ≡ Some f)
form_parts [] rest x f e = inr e
form_parts (d ∷ ds) rest x f e = by (same_name x d.name) e (form_parts ds rest x f)
  where
    by : (b : Bool) → (if b then Some (form_of_domain d.domain) else form_in (scope_of ds ++ rest) x) ≡ Some f →
        (form_in (scope_of ds ++ rest) x ≡ Some f → (is_among x (names ds) ≡ true) ⊎ (form_in rest x ≡ Some f)) → ((b || is_among x (names ds)) ≡ true) ⊎ (form_in rest x ≡ Some f)
    by true e r = inl refl
    by false e r = r e

pub declared_in : (ds : List Declared) (x : Name) (f : Form) → form_in (scope_of ds) x ≡ Some f → is_among x (names ds) ≡ true
declared_in [] x f e = cc
declared_in (d ∷ ds) x f e = by (same_name x d.name) e (declared_in ds x f)
  where
    by : (b : Bool) → (if b then Some (form_of_domain d.domain) else form_in (scope_of ds) x) ≡ Some f → (form_in (scope_of ds) x ≡ Some f → is_among x (names ds) ≡ true) → (b || is_among x (names ds)) ≡ true
    by true e r = refl
    by false e r = r e

-- look-ups that agree on what is known agree also on names that have the same values in both
pub bound_agree : (ds : List Declared) (rest : Scope) (vs : List Value) (s t : Look) → AgreeOn rest s t → AgreeOn (scope_of ds ++ rest) (over (bind (names ds) vs) s) (over (bind (names ds) vs) t)
bound_agree ds rest vs s t a x f e = bind_agrees (names ds) vs s t x (by (form_parts ds rest x f e))
  where
    by : (is_among x (names ds) ≡ true) ⊎ (form_in rest x ≡ Some f) → (is_among x (names ds) ≡ true) ⊎ (s x ≡ t x)
    by (inl i) = inl i
    by (inr g) = inr (a x f g)

-- ---- the variables of a controller's machines

none_parts : (s t : Scope) (x : Name) → form_in (s ++ t) x ≡ None → (form_in s x ≡ None) × (form_in t x ≡ None)
none_parts [] t x e = (refl, e)
none_parts (p ∷ s) t x e = by (same_name x p.0) e (none_parts s t x)
  where
    by : (b : Bool) → (if b then Some p.1 else form_in (s ++ t) x) ≡ None → (form_in (s ++ t) x ≡ None → (form_in s x ≡ None) × (form_in t x ≡ None)) →
        ((if b then Some p.1 else form_in s x) ≡ None) × (form_in t x ≡ None)
    by true e r = cc
    by false e r = r e

some_parts : (s t : Scope) (x : Name) (f : Form) → form_in (s ++ t) x ≡ Some f → (form_in s x ≡ Some f) ⊎ (form_in t x ≡ Some f)
some_parts [] t x f e = inr e
some_parts (p ∷ s) t x f e = by (same_name x p.0) e (some_parts s t x f)
  where
    by : (b : Bool) → (if b then Some p.1 else form_in (s ++ t) x) ≡ Some f → (form_in (s ++ t) x ≡ Some f → (form_in s x ≡ Some f) ⊎ (form_in t x ≡ Some f)) →
        ((if b then Some p.1 else form_in s x) ≡ Some f) ⊎ (form_in t x ≡ Some f)
    by true e r = inl e
    by false e r = r e

module _ (y : System) where
  abbrev scopes : List ℕ → Scope
  scopes ks = flat_map (λ k. variables_of (slice_get y.machines k)) ks

  own_known : (ks : List ℕ) (i k : ℕ) (m : Machine) (x : Name) (f : Form) → IsAt ks i k → IsAt y.machines k m → form_in (scope_of m.variables) x ≡ Some f → form_in (scopes ks) x ≡ None → ⊥
  own_known [] i k m x f e at h n = cc
  own_known (l ∷ ks) zero k m x f e at h n =
      let here : l ≡ k = cc (e) in
      let none : form_in (variables_of (slice_get y.machines k)) x ≡ None = subst (λ z. form_in (variables_of (slice_get y.machines z)) x ≡ None) here (none_parts (variables_of (slice_get y.machines l)) (scopes ks) x n).0 in
      let none' : form_in (scope_of m.variables) x ≡ None = subst (λ o. form_in (variables_of o) x ≡ None) at none in
      cc
  own_known (l ∷ ks) (suc i) k m x f e at h n = own_known ks i k m x f e at h (none_parts (variables_of (slice_get y.machines l)) (scopes ks) x n).1

  -- a name that is known so is a variable of one of the machines
  pub own_from : (ks : List ℕ) (x : Name) (f : Form) → form_in (scopes ks) x ≡ Some f →
      (i : ℕ) × (k : ℕ) × (m : Machine) × IsAt ks i k × IsAt y.machines k m × (is_among x (names m.variables) ≡ true)
  own_from [] x f e = cc
  own_from (l ∷ ks) x f e = by (some_parts (variables_of (slice_get y.machines l)) (scopes ks) x f e) (own_from ks x f)
    where
      here : (o : Option Machine) → slice_get y.machines l ≡ o → form_in (variables_of o) x ≡ Some f →
          (i : ℕ) × (k : ℕ) × (m : Machine) × IsAt (l ∷ ks) i k × IsAt y.machines k m × (is_among x (names m.variables) ≡ true)
      here None at h = cc
      here (Some m) at h = (0, l, m, refl, at, declared_in m.variables x f h)

      by : (form_in (variables_of (slice_get y.machines l)) x ≡ Some f) ⊎ (form_in (scopes ks) x ≡ Some f) →
          (form_in (scopes ks) x ≡ Some f → (i : ℕ) × (k : ℕ) × (m : Machine) × IsAt ks i k × IsAt y.machines k m × (is_among x (names m.variables) ≡ true)) →
          (i : ℕ) × (k : ℕ) × (m : Machine) × IsAt (l ∷ ks) i k × IsAt y.machines k m × (is_among x (names m.variables) ≡ true)
      by (inl h) go = here (slice_get y.machines l) refl h
      by (inr h) go = let r = go h in (suc r.0, r.1, r.2, r.3, r.4, r.5)

  pub own_agree : (c : Controller) (s t : Look) → AgreeOn (own_scope y c) s t → (k : ℕ) (m : Machine) → Contains c.machines k → IsAt y.machines k m → AgreeOn (scope_of m.variables) s t
  own_agree c s t a k m own at x f e =
      let i = contains_at c.machines k own in
      at_known (own_scope y c) s t a x (λ n. own_known c.machines i.0 k m x f i.1 at e n)

-- ---- what the controller may do

module _ (y : System) (typed : Typed y) (i : ℕ) (c : Controller) (here : IsNumbered y i c) where
  abbrev sizes : List ℕ
  sizes = set_sizes y

  -- stores that agree on the variables of its machines allow it the same
  pub sat_agrees : (p : ProcessTree) (scope : Scope) (taken : List Name) → TypedProcess y (global_names y) i c scope taken p → (env s t : Look) →
      AgreeOn (own_scope y c) s t → Sat y c p env s → Sat y c p env t
  sat_agrees Stop scope taken w env s t a h = h
  sat_agrees Skip scope taken w env s t a h = h
  sat_agrees (Call k ts) scope taken w env s t a h = some_map (slice_get c.definitions k) _ _ h (λ d at u vs are.
      let q = u vs are in
      let ps = names d.params in (
        q.0,
        formula_agrees sizes (scope_of d.params ++ own_scope y c) (ps ++ global_names y) (over (bind ps vs) s) (over (bind ps vs) t)
            (bound_agree d.params (own_scope y c) vs s t a) d.invariant ((typed.controllers i c here).definitions k d at).invariant q.1,
      ))
  sat_agrees (Prefix (event.Output k ts said) p) scope taken w env s t a h = (h.0, sat_agrees p scope taken w.1 env s t a h.1)
  sat_agrees (Prefix (event.Input k xs said) p) scope taken w env s t a h = some_both (slice_get y.channels k) _ _ _ w.1 h (λ ch at u v vs ok.
      sat_agrees p (scope_at xs ch.values ++ scope) (xs ++ taken) u.3 (over (bind xs vs) env) s t a (v vs ok))
  sat_agrees (Prefix (event.Call k j ts xs) p) scope taken w env s t a h = some_both (slice_get y.machines k) _ _ _ w.2 h (λ m at u v.
      some_both (slice_get m.operations j) _ _ _ u v (λ o listed g r vs are.
      let q = r vs are in
      let tm = typed.machines k m at in
      let to = tm.operations j o listed in
      let on : AgreeOn (scope_of m.variables) s t = own_agree y c s t a k m w.0 at in
      let inside : AgreeOn (scope_in m o) (with_args o vs s) (with_args o vs t) = bound_agree o.params (scope_of m.variables) vs s t on in
      let used = names o.params ++ result_names o.results ++ global_names y in (
        formula_agrees sizes (scope_in m o) used (with_args o vs s) (with_args o vs t) inside o.pre to.precondition q.0,
        λ d run inv.
            let run' = run_agrees sizes (o.results ++ targets_of m.variables) (scope_in m o) used (with_args o vs t) (with_args o vs s)
            (agree_back (scope_in m o) (with_args o vs s) (with_args o vs t) inside) o.body to.body d run in
            let inv' = formula_agrees sizes (scope_of m.variables) (global_names y) (kept m d t) (kept m d s)
            (λ x f e. sym (over_agrees (only (names m.variables) d) s t x (on x f e))) m.invariant tm.invariant inv in
            sat_agrees p (scope_with xs (result_forms sizes m o) ++ scope) (xs ++ taken) g.2 (over (bind xs (results_after o d)) env) (kept m d s) (kept m d t)
            (λ x f e. over_agrees (only (names m.variables) d) s t x (a x f e)) (q.1 d run' inv'),
      )))
  sat_agrees (Choice p q) scope taken w env s t a h = (sat_agrees p scope taken w.0 env s t a h.0, sat_agrees q scope taken w.1 env s t a h.1)
  sat_agrees (Internal p q) scope taken w env s t a h = (sat_agrees p scope taken w.0 env s t a h.0, sat_agrees q scope taken w.1 env s t a h.1)
  sat_agrees (If f p q) scope taken w env s t a h = ((λ e. sat_agrees p scope taken w.1 env s t a (h.0 e)), (λ e. sat_agrees q scope taken w.2 env s t a (h.1 e)))

  process_agrees : (p : ProcessTree) (env s t : Look) → AgreeOn (own_scope y c) s t → FineProcess y i c p env s → FineProcess y i c p env t
  process_agrees p env s t a f = record {
    scope = f.scope;
    taken = f.taken;
    typed = f.typed;
    agrees = f.agrees;
    operands = f.operands;
    few_silent = f.few_silent;
    few_silent_after = f.few_silent_after;
    few_branches = f.few_branches;
    matched = f.matched;
    sat = sat_agrees p f.scope f.taken f.typed env s t a f.sat;
  }

  branches_agree : (bs : List BranchView) (s t : Look) → AgreeOn (own_scope y c) s t → FineBranches y i c bs s → FineBranches y i c bs t
  branches_agree [] s t a f = f
  branches_agree (b ∷ bs) s t a f = (process_agrees (Prefix b.event b.next) b.env s t a f.0, branches_agree bs s t a f.1)

  pub control_agrees : (k : ControlView) (s t : Look) → AgreeOn (own_scope y c) s t → FineControl y i c k s → FineControl y i c k t
  control_agrees (AtProcess p env) s t a f = process_agrees p env s t a f
  control_agrees (Offering bs) s t a f = branches_agree bs s t a f
  control_agrees Done s t a f = f
