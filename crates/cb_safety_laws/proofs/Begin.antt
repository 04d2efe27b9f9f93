-- How a system begins: each machine's variables are as a run of its own initialisation leaves them.
use Rattle.std.proofs.Common.{◌≡◌, ℕ, zero, suc, ℤ, Bool, true, false, ◌||◌, List, [], ◌∷◌, ◌++◌, map, flat_map, Option, Some, None, IsSome, refl, sym, ap, ◌∙◌, subst, true≢false, if◌then◌else◌, arith}
use Rattle.std.proofs.lemmas.Bool.{false_from_ne_true}
use Rattle.std.proofs.lemmas.Option.{same_Some}
use Rattle.cb_term.specs.declared.name.Name.{Name}
use Rattle.cb_term.specs.declared.kind.Kind.{Kind}
use Rattle.cb_term.specs.declared.table.SetNames.{SetNames}
use Rattle.cb_term.specs.declared.value.Value.{Value}
use Rattle.cb_term.specs.Names.{same_name}
use Rattle.cb_term.specs.Values.{Look, IsOf}
use Rattle.cb_term.proofs.FreeLemmas.{or_left, or_right}
use Rattle.cb_term.proofs.ValueLemmas.{same_name_tells, same_name_self}
use Rattle.cb_spec.specs.declared.system.Channel.{Channel}
use Rattle.cb_spec.specs.declared.system.Controller.{Controller}
use Rattle.cb_spec.specs.declared.system.Declared.{Declared}
use Rattle.cb_spec.specs.declared.system.Machine.{Machine}
use Rattle.cb_spec.specs.declared.system.System.{System}
use Rattle.cb_spec.specs.SubstTree.{SubstTree, Skip, Assign, Together, Choice, If, AnyOf, SubstTrees, End, More}
use Rattle.cb_spec.specs.Domains.{kind_of_domain}
use Rattle.cb_spec.specs.Stores.{Writes, found, over, empty}
use Rattle.cb_spec.specs.Bound.{names, is_among, only, GivesKinds}
use Rattle.cb_spec.specs.Runs.{Runs, writes, one_writes}
use Rattle.cb_spec.specs.Forms.{form_of_domain}
use Rattle.cb_spec.specs.States.{IsAt}
use Rattle.cb_spec.specs.Journals.{set_sizes, Begun}
use Rattle.cb_spec.specs.TypedTerms.{Scope}
use Rattle.cb_spec.specs.TypedSubsts.{TypedSubst, TypedSides}
use Rattle.cb_spec.specs.TypedSubsts as typed
use Rattle.cb_spec.specs.TypedProcesses.{AreNew}
use Rattle.cb_spec.specs.Typed.{global_names, targets_of, Typed}
use Rattle.cb_spec.proofs.RunLemmas.{runs_targets}
use Rattle.cb_obligations.proofs.Calls.{neither}
use Rattle.cb_typed.proofs.Erasing.{some_and}
use Rattle.cb_typed.proofs.Naming.{new_front, new_back}
use Rattle.cb_safety_laws.proofs.Lists.{one_new}

-- ---- what is written

one_of : (a b : Bool) → (a || b) ≡ true → (a ≡ true → ⊥) → (b ≡ true → ⊥) → ⊥
one_of true b e p q = p refl
one_of false b e p q = q e

module _ (sizes : List ℕ) (targets : List (Name × Kind)) (x : Name) where
  mutual
    writes_known : (s : SubstTree) (scope : Scope) (taken : List Name) → TypedSubst sizes targets scope taken s → typed.kind_of_target targets x ≡ None → writes x s ≡ true → ⊥
    writes_known Skip scope taken w n e = cc
    writes_known (Assign y t) scope taken w n e =
        let p = some_and (typed.kind_of_target targets y) _ w in
        let h : None ≡ Some p.0 = sym n ∙ ap (typed.kind_of_target targets) (same_name_tells x y e) ∙ p.1 in
        cc
    writes_known (Together a b) scope taken w n e = one_of (writes x a) (writes x b) e (writes_known a scope taken w.0 n) (writes_known b scope taken w.1 n)
    writes_known (Choice ss) scope taken w n e = one_known ss scope taken w n e
    writes_known (If p a b) scope taken w n e = one_of (writes x a) (writes x b) e (writes_known a scope taken w.1 n) (writes_known b scope taken w.2 n)
    writes_known (AnyOf z d p s) scope taken w n e = writes_known s ((z, form_of_domain d) ∷ scope) (z ∷ taken) w.4 n e

    one_known : (ss : SubstTrees) (scope : Scope) (taken : List Name) → TypedSides sizes targets scope taken ss → typed.kind_of_target targets x ≡ None → one_writes x ss ≡ true → ⊥
    one_known End scope taken w n e = cc
    one_known (More s ss) scope taken w n e = one_of (writes x s) (one_writes x ss) e (writes_known s scope taken w.0 n) (one_known ss scope taken w.1 n)

no_target : (ds : List Declared) (x : Name) → is_among x (names ds) ≡ false → typed.kind_of_target (targets_of ds) x ≡ None
no_target [] x e = refl
no_target (d ∷ ds) x e =
    let n = neither (same_name x d.name) (is_among x (names ds)) e in
    ap (λ b. if b then Some (kind_of_domain d.domain) else typed.kind_of_target (targets_of ds) x) n.0 ∙ no_target ds x n.1

found_past : (d e : Writes) (x : Name) → found d x ≡ None → found (d ++ e) x ≡ found e x
found_past [] e x n = refl
found_past (p ∷ d) e x n = by (same_name x p.0) n (found_past d e x)
  where
    by : (b : Bool) → (if b then Some p.1 else found d x) ≡ None → (found d x ≡ None → found (d ++ e) x ≡ found e x) → (if b then Some p.1 else found (d ++ e) x) ≡ found e x
    by true n r = cc
    by false n r = r n

found_first : (d e : Writes) (x : Name) → found e x ≡ None → found (d ++ e) x ≡ found d x
found_first [] e x n = n
found_first (p ∷ d) e x n = ap (λ o. if same_name x p.0 then Some p.1 else o) (found_first d e x n)

-- what is written to a machine's variables alone leaves other names
pub kept_other : (xs : List Name) (d : Writes) (look : Look) (x : Name) → is_among x xs ≡ false → over (only xs d) look x ≡ look x
kept_other xs [] look x n = refl
kept_other xs (p ∷ d) look x n = by (is_among p.0 xs) refl (kept_other xs d look x n)
  where
    apart : (b : Bool) → same_name x p.0 ≡ b → is_among p.0 xs ≡ true → (v : Value) → v ≡ look x → (if b then p.1 else v) ≡ look x
    apart true s i v h = absurd (true≢false (sym i ∙ ap (λ z. is_among z xs) (sym (same_name_tells x p.0 s)) ∙ n))
    apart false s i v h = h

    by : (b : Bool) → is_among p.0 xs ≡ b → over (only xs d) look x ≡ look x → over (if b then p ∷ only xs d else only xs d) look x ≡ look x
    by true i r = apart (same_name x p.0) refl i (over (only xs d) look x) r
    by false i r = r

pub kinds_agree : (sizes : List ℕ) (ds : List Declared) (s t : Look) → ((x : Name) → is_among x (names ds) ≡ true → s x ≡ t x) → GivesKinds sizes ds s → GivesKinds sizes ds t
kinds_agree sizes [] s t a k = tt
kinds_agree sizes (d ∷ ds) s t a k = (
  subst (IsOf sizes (kind_of_domain d.domain)) (a d.name (or_left (same_name d.name d.name) (is_among d.name (names ds)) (same_name_self d.name))) k.0,
  kinds_agree sizes ds s t (λ x e. a x (or_right (same_name x d.name) (is_among x (names ds)) e)) k.1,
)

-- ---- the initialisations together

module _ (sizes : List ℕ) where
  -- it writes to the machine's variables alone
  abbrev Quiet : Machine → Type 0
  Quiet m = (x : Name) → is_among x (names m.variables) ≡ false → (d : Writes) → Runs sizes m.init empty d → found d x ≡ None

  -- the map has for the variables what a run of the initialisation writes
  abbrev pub Starting : Machine → Writes → Type 0
  Starting m d = (own : Writes) × Runs sizes m.init empty own × ((x : Name) → is_among x (names m.variables) ≡ true → found d x ≡ found own x)

  begun_none : (ms : List Machine) → ((k : ℕ) (m : Machine) → IsAt ms k m → Quiet m) → (d : Writes) → Begun sizes ms d → (x : Name) →
      ((k : ℕ) (m : Machine) → IsAt ms k m → is_among x (names m.variables) ≡ false) → found d x ≡ None
  begun_none [] q d b x n = ap (λ w. found w x) b
  begun_none (m ∷ ms) q d b x n =
      ap (λ w. found w x) b.1.1.2 ∙ found_past b.0 b.1.0 x (q 0 m refl x (n 0 m refl) b.0 b.1.1.0) ∙ begun_none ms (λ k. q (suc k)) b.1.0 b.1.1.1 x (λ k. n (suc k))

  begun_starts : (ms : List Machine) → ((k : ℕ) (m : Machine) → IsAt ms k m → Quiet m) →
      ((k l : ℕ) (m n : Machine) (x : Name) → IsAt ms k m → IsAt ms l n → is_among x (names m.variables) ≡ true → is_among x (names n.variables) ≡ true → k ≡ l) →
      (d : Writes) → Begun sizes ms d → (k : ℕ) (m : Machine) → IsAt ms k m → Starting m d
  begun_starts [] q v d b k m e = cc
  begun_starts (n ∷ ms) q v d b zero m e = subst (λ (z : Machine). Starting z d) (same_Some n m e) (b.0, b.1.1.0, here)
    where
      apart : (k : ℕ) → 0 ≡ suc k → ⊥
      apart k e = omega (arith, e)

      here : (x : Name) → is_among x (names n.variables) ≡ true → found d x ≡ found b.0 x
      here x i = ap (λ w. found w x) b.1.1.2 ∙ found_first b.0 b.1.0 x (begun_none ms (λ k. q (suc k)) b.1.0 b.1.1.1 x
          (λ k p at. false_from_ne_true (is_among x (names p.variables)) (λ j. apart k (v 0 (suc k) n p x refl at i j))))
  begun_starts (n ∷ ms) q v d b (suc k) m e =
      let r = begun_starts ms (λ k. q (suc k)) (λ k l m o x f g i j. suc_same k l (v (suc k) (suc l) m o x f g i j)) b.1.0 b.1.1.1 k m e in (
        r.0,
        r.1,
        λ x i. ap (λ w. found w x) b.1.1.2 ∙ found_past b.0 b.1.0 x (q 0 n refl x (false_from_ne_true (is_among x (names n.variables)) (λ j. apart (v 0 (suc k) n m x refl e j i))) b.0 b.1.1.0) ∙ r.2 x i,
      )
    where
      suc_same : (k l : ℕ) → suc k ≡ suc l → k ≡ l
      suc_same k l e = omega (arith, e)

      apart : 0 ≡ suc k → ⊥
      apart e = omega (arith, e)

-- ---- in a typed system

module _ (y : System) (t : Typed y) where
  abbrev before : List Name
  before = map (λ (s : SetNames). s.name) y.sets.sets.items ++ flat_map (λ (s : SetNames). s.elements) y.sets.sets.items
      ++ map (λ (c : Name × ℤ). c.0) y.constants ++ map (λ (m : Machine). m.name) y.machines

  abbrev of_variables : List Name
  of_variables = flat_map (λ (m : Machine). names m.variables) y.machines

  abbrev of_channels : List Name
  of_channels = map (λ (c : Channel). c.name) y.channels

  abbrev of_controllers : List Name
  of_controllers = map (λ (c : Controller). c.name) y.controllers

  all_names : global_names y ≡ before ++ of_variables ++ of_channels ++ of_controllers
  all_names = refl

  -- no name is a variable of two machines
  pub variables_apart : (k l : ℕ) (m n : Machine) (x : Name) → IsAt y.machines k m → IsAt y.machines l n → is_among x (names m.variables) ≡ true → is_among x (names n.variables) ≡ true → k ≡ l
  variables_apart k l m n x at atn i j =
      let new : AreNew [] (before ++ of_variables ++ of_channels ++ of_controllers) = subst (AreNew []) all_names t.names_differ in
      let a = new_front [] (before ++ of_variables) of_channels (new_front [] (before ++ of_variables ++ of_channels) of_controllers new) in
      let b = new_back [] before of_variables a in
      one_new (λ (m : Machine). names m.variables) y.machines b.0 b.1 k l m n x at atn i j

  init_quiet : (k : ℕ) (m : Machine) → IsAt y.machines k m → Quiet (set_sizes y) m
  init_quiet k m at x n d r = by (found d x) refl
    where
      by : (o : Option Value) → found d x ≡ o → o ≡ None
      by None e = refl
      by (Some v) e = absurd (writes_known (set_sizes y) (targets_of m.variables) x m.init [] (global_names y) (t.machines k m at).init (no_target m.variables x n)
          (runs_targets (set_sizes y) m.init empty d r x (subst (λ o. IsSome o) (sym e) refl)))

  pub starts : (d : Writes) → Begun (set_sizes y) y.machines d → (k : ℕ) (m : Machine) → IsAt y.machines k m → Starting (set_sizes y) m d
  starts d b = begun_starts (set_sizes y) y.machines init_quiet variables_apart d b
