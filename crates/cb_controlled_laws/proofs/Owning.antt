-- The machines of a controller: none stands twice, and their variables differ.
use Rattle.std.proofs.Common.{◌≡◌, ℕ, zero, suc, ◌+◌, Bool, true, false, ◌||◌, List, [], ◌∷◌, ◌++◌, flat_map, length, Option, Some, None, slice_get, refl, sym, ap, ◌∙◌, subst, arith, true≢false}
use Rattle.cb_term.specs.declared.name.Name.{Name}
use Rattle.cb_term.specs.declared.kind.Kind.{Kind}
use Rattle.cb_term.specs.Names.{same_name}
use Rattle.cb_term.proofs.ValueLemmas.{same_name_tells}
use Rattle.cb_spec.specs.declared.system.Controller.{Controller}
use Rattle.cb_spec.specs.declared.system.Machine.{Machine}
use Rattle.cb_spec.specs.declared.system.System.{System}
use Rattle.cb_spec.specs.SubstTree.{SubstTree, Skip, Assign, Together, Choice, If, AnyOf, SubstTrees, End, More}
use Rattle.cb_spec.specs.Bound.{names, is_among}
use Rattle.cb_spec.specs.Runs.{writes, one_writes, Fits}
use Rattle.cb_spec.specs.Forms.{Form}
use Rattle.cb_spec.specs.Journals.{set_sizes}
use Rattle.cb_spec.specs.States.{IsAt}
use Rattle.cb_spec.specs.TypedTerms.{Scope, form_in}
use Rattle.cb_spec.specs.TypedSubsts.{TypedSubst, TypedSides}
use Rattle.cb_spec.specs.TypedSubsts as typed
use Rattle.cb_spec.specs.TypedProcesses.{AreNew, scope_of}
use Rattle.cb_spec.specs.Typed.{global_names, targets_of, NumbersDiffer, own_scope, Typed}
use Rattle.cb_obligations.specs.Sufficing.{IsVariable}
use Rattle.cb_obligations.proofs.Calls.{neither}
use Rattle.cb_typed.proofs.Erasing.{some_and}
use Rattle.cb_typed.proofs.Naming.{new_apart, new_front, new_back, among_at}
use Rattle.cb_typed.proofs.Fitting.{declared_in, form_both, kind_of_declared, targets_kind, typed_machine, before, of_variables, of_channels, of_controllers, all_names}
use Rattle.cb_conditions.specs.Conditions.{if_there, listed, variables_of, beginnings}
use Rattle.cb_conditions.specs.Sufficing.{is_own}
use Rattle.cb_conditions.proofs.Sufficing.{among_left, among_right}

-- ---- places

at_left : {A : Type 0} (xs ys : List A) (i : ℕ) (x : A) → IsAt xs i x → IsAt (xs ++ ys) i x
at_left [] ys i x e = cc
at_left (z ∷ xs) ys zero x e = e
at_left (z ∷ xs) ys (suc i) x e = at_left xs ys i x e

at_right : {A : Type 0} (xs ys : List A) (i : ℕ) (x : A) → IsAt ys i x → IsAt (xs ++ ys) (length xs + i) x
at_right [] ys i x e = subst (λ j. IsAt ys j x) (omega arith) e
at_right (z ∷ xs) ys i x e =
    let r : IsAt (z ∷ (xs ++ ys)) (suc (length xs + i)) x = at_right xs ys i x e in
    let same : suc (length xs + i) ≡ length (z ∷ xs) + i = omega arith in
    subst (λ j. IsAt (z ∷ (xs ++ ys)) j x) same r

-- where the controller's machines stand among those of all
offset : (cs : List Controller) (q : ℕ) (c : Controller) → IsAt cs q c →
    (off : ℕ) × ((i k : ℕ) → IsAt c.machines i k → IsAt (flat_map (λ (d : Controller). d.machines) cs) (off + i) k)
offset [] q c e = cc
offset (d ∷ cs) zero c e =
    let same : d ≡ c = cc (e) in (
      0,
      (λ i k h. subst (λ j. IsAt (flat_map (λ (d : Controller). d.machines) (d ∷ cs)) j k) (omega arith)
          (at_left d.machines (flat_map (λ (d : Controller). d.machines) cs) i k (subst (λ (z : Controller). IsAt z.machines i k) (sym same) h))),
    )
offset (d ∷ cs) (suc q) c e =
    let r = offset cs q c e in (
      length d.machines + r.0,
      (λ i k h. subst (λ j. IsAt (flat_map (λ (d : Controller). d.machines) (d ∷ cs)) j k) (omega arith)
          (at_right d.machines (flat_map (λ (d : Controller). d.machines) cs) (r.0 + i) k (r.1 i k h))),
    )

pub machines_differ : (cs : List Controller) (q : ℕ) (c : Controller) → IsAt cs q c → NumbersDiffer (flat_map (λ (d : Controller). d.machines) cs) → NumbersDiffer c.machines
machines_differ cs q c e d i j k a b =
    let r = offset cs q c e in
    let same : r.0 + i ≡ r.0 + j = d (r.0 + i) (r.0 + j) k (r.1 i k a) (r.1 j k b) in
    omega (arith, same)

-- ---- variables of two machines

not_behind : (taken xs ys : List Name) → AreNew taken (xs ++ ys) → (x : Name) → is_among x xs ≡ true → is_among x ys ≡ false
not_behind taken [] ys n x e = cc
not_behind taken (z ∷ xs) ys n x e = by (same_name x z) refl e (not_behind (z ∷ taken) xs ys n.1 x)
  where
    behind : (zs : List Name) → is_among x (zs ++ ys) ≡ false → is_among x ys ≡ false
    behind [] h = h
    behind (w ∷ zs) h = behind zs (neither (same_name x w) (is_among x (zs ++ ys)) h).1

    by : (b : Bool) → same_name x z ≡ b → (b || is_among x xs) ≡ true → (is_among x xs ≡ true → is_among x ys ≡ false) → is_among x ys ≡ false
    by true s e r = behind xs (new_apart (z ∷ taken) (xs ++ ys) n.1 x (ap (λ b. b || is_among x taken) s))
    by false s e r = r e

same_place : {A : Type 0} (f : A → List Name) (as' : List A) (taken : List Name) → AreNew taken (flat_map f as') → (k k' : ℕ) (a a' : A) → IsAt as' k a → IsAt as' k' a' →
    (x : Name) → is_among x (f a) ≡ true → is_among x (f a') ≡ true → k ≡ k'
same_place f [] taken n k k' a a' e e' x h h' = cc
same_place f (b ∷ as') taken n zero zero a a' e e' x h h' = refl
same_place f (b ∷ as') taken n zero (suc k') a a' e e' x h h' =
    let same : b ≡ a = cc (e) in
    absurd (true≢false (sym (among_at f as' k' a' x e' h') ∙ not_behind taken (f b) (flat_map f as') n x (subst (λ z. is_among x (f z) ≡ true) (sym same) h)))
same_place f (b ∷ as') taken n (suc k) zero a a' e e' x h h' =
    let same : b ≡ a' = cc (e') in
    absurd (true≢false (sym (among_at f as' k a x e h) ∙ not_behind taken (f b) (flat_map f as') n x (subst (λ z. is_among x (f z) ≡ true) (sym same) h')))
same_place f (b ∷ as') taken n (suc k) (suc k') a a' e e' x h h' =
    let r = new_back taken (f b) (flat_map f as') n in
    ap suc (same_place f as' r.0 r.1 k k' a a' e e' x h h')

-- ---- what initialisations write

module _ (sizes : List ℕ) (targets : List (Name × Kind)) (x : Name) where
  written_one : (a b : Bool) (C : Type 0) → (a || b) ≡ true → (a ≡ true → C) → (b ≡ true → C) → C
  written_one true b C e p q = p refl
  written_one false b C e p q = q e

  mutual
    written_target : (s : SubstTree) (scope : Scope) (taken : List Name) → TypedSubst sizes targets scope taken s → writes x s ≡ true → (k : Kind) × (typed.kind_of_target targets x ≡ Some k)
    written_target Skip scope taken w e = cc
    written_target (Assign z t) scope taken w e =
        let p = some_and (typed.kind_of_target targets z) _ w in
        (p.0, ap (typed.kind_of_target targets) (same_name_tells x z e) ∙ p.1)
    written_target (Together a b) scope taken w e = written_one (writes x a) (writes x b) _ e (written_target a scope taken w.0) (written_target b scope taken w.1)
    written_target (Choice ss) scope taken w e = written_side ss scope taken w e
    written_target (If p a b) scope taken w e = written_one (writes x a) (writes x b) _ e (written_target a scope taken w.1) (written_target b scope taken w.2)
    written_target (AnyOf z d p s) scope taken w e = written_target s _ (z ∷ taken) w.4 e

    written_side : (ss : SubstTrees) (scope : Scope) (taken : List Name) → TypedSides sizes targets scope taken ss → one_writes x ss ≡ true → (k : Kind) × (typed.kind_of_target targets x ≡ Some k)
    written_side End scope taken w e = cc
    written_side (More s ss) scope taken w e = written_one (writes x s) (one_writes x ss) _ e (written_target s scope taken w.0) (written_side ss scope taken w.1)

module _ (y : System) (t : Typed y) where
  -- a variable of two machines is a variable of one
  pub one_machine : (k k' : ℕ) (m m' : Machine) → IsAt y.machines k m → IsAt y.machines k' m' → (x : Name) → IsVariable m x → IsVariable m' x → k ≡ k'
  one_machine k k' m m' e e' x v v' =
      let b4 = before y t k m e in
      let ov = of_variables y t k m e in
      let oc = of_channels y t k m e in
      let on = of_controllers y t k m e in
      let n : AreNew [] (b4 ++ ov ++ oc ++ on) = subst (AreNew []) (all_names y t k m e) t.names_differ in
      let a = new_front [] (b4 ++ ov) oc (new_front [] (b4 ++ ov ++ oc) on n) in
      let b = new_back [] b4 ov a in
      same_place (λ (m : Machine). names m.variables) y.machines b.0 b.1 k k' m m' e e' x v v'

  pub init_own : (k : ℕ) (m : Machine) → IsAt y.machines k m → (x : Name) → writes x m.init ≡ true → IsVariable m x
  init_own k m e x w =
      let r = written_target (set_sizes y) (targets_of m.variables) x m.init [] (global_names y) (typed_machine y t k m e).init w in
      kind_of_declared (set_sizes y) m.variables x r.0 (sym (targets_kind (set_sizes y) m.variables x) ∙ r.1)

  -- a name that one of them writes is a variable of one of them
  begun_variable : (ks : List ℕ) (x : Name) → writes x (beginnings (listed y.machines ks)) ≡ true →
      (j : ℕ) × (k : ℕ) × (m : Machine) × (IsAt ks j k) × (IsAt y.machines k m) × IsVariable m x
  begun_variable [] x w = cc
  begun_variable (k ∷ ks) x w = by (slice_get y.machines k) refl w (λ w'. begun_variable ks x w')
    where
      by : (o : Option Machine) → slice_get y.machines k ≡ o → writes x (beginnings (if_there o (listed y.machines ks))) ≡ true →
          (writes x (beginnings (listed y.machines ks)) ≡ true → (j : ℕ) × (i : ℕ) × (m : Machine) × (IsAt ks j i) × (IsAt y.machines i m) × IsVariable m x) →
          (j : ℕ) × (i : ℕ) × (m : Machine) × (IsAt (k ∷ ks) j i) × (IsAt y.machines i m) × IsVariable m x
      by None e w r = let q = r w in (suc q.0, q.1, q.2, q.3, q.4, q.5)
      by (Some m) e w r = written_one (set_sizes y) [] x (writes x m.init) (writes x (beginnings (listed y.machines ks))) _ w
          (λ a. (0, k, m, refl, e, init_own k m e x a)) (λ b. let q = r b in (suc q.0, q.1, q.2, q.3, q.4, q.5))

  pub begun_fit : (ks : List ℕ) → NumbersDiffer ks → Fits (set_sizes y) (beginnings (listed y.machines ks))
  begun_fit [] d = tt
  begun_fit (k ∷ ks) d = by (slice_get y.machines k) refl (begun_fit ks (λ i j z a b. let e : suc i ≡ suc j = d (suc i) (suc j) z a b in omega (arith, e)))
    where
      by : (o : Option Machine) → slice_get y.machines k ≡ o → Fits (set_sizes y) (beginnings (listed y.machines ks)) → Fits (set_sizes y) (beginnings (if_there o (listed y.machines ks)))
      by None e f = f
      by (Some m) e f = (
        (λ x a b.
            let q = begun_variable ks x b in
            let same = one_machine k q.1 m q.2 e q.4 x (init_own k m e x a) q.5 in
            let first : 0 ≡ suc q.0 = d 0 (suc q.0) q.1 (ap Some same) q.3 in
            absurd (omega (arith, first))),
        (typed_machine y t k m e).init_fits,
        f,
      )

-- ---- the scope of a controller's variables

own_in : (ms : List Machine) (G : ℕ → Scope) → ((k : ℕ) → slice_get ms k ≡ None → G k ≡ []) → ((k : ℕ) (m : Machine) → slice_get ms k ≡ Some m → G k ≡ scope_of m.variables) →
    (ks : List ℕ) (x : Name) (f : Form) → form_in (flat_map G ks) x ≡ Some f → is_among x (names (variables_of (listed ms ks))) ≡ true
own_in ms G none some [] x f e = cc
own_in ms G none some (k ∷ ks) x f e = by (slice_get ms k) refl (own_in ms G none some ks x f)
  where
    by : (o : Option Machine) → slice_get ms k ≡ o → (form_in (flat_map G ks) x ≡ Some f → is_among x (names (variables_of (listed ms ks))) ≡ true) →
        is_among x (names (variables_of (if_there o (listed ms ks)))) ≡ true
    by None n r = r (subst (λ z. form_in (z ++ flat_map G ks) x ≡ Some f) (none k n) e)
    by (Some m) n r = form_both [] (scope_of m.variables) (flat_map G ks) x f (is_among x (names (variables_of (m ∷ listed ms ks))) ≡ true)
        (subst (λ z. form_in (z ++ flat_map G ks) x ≡ Some f) (some k m n) e)
        (λ h. among_left x m.variables (variables_of (listed ms ks)) (declared_in [] m.variables x f h))
        (λ h. among_right x m.variables (variables_of (listed ms ks)) (r h))

pub own_scope_own : (y : System) (c : Controller) (x : Name) (f : Form) → form_in (own_scope y c) x ≡ Some f → is_own y c x ≡ true
own_scope_own y c x f e = own_in y.machines _ (λ k n. rw (n) refl) (λ k m n. rw (n) refl) c.machines x f e
