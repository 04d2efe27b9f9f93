-- The machines of a typed system fit, and what is written is of its kind.
use Rattle.std.proofs.Common.{◌≡◌, ℕ, suc, ℤ, pos, Bool, true, false, ◌||◌, List, [], ◌∷◌, ◌++◌, map, flat_map, Option, Some, None, IsSome, inl, inr, refl, sym, ap, ◌∙◌, subst, if◌then◌else◌, true≢false, arith}
use Rattle.std.specs.Prelude.{Contains}
use Rattle.std.proofs.lemmas.Int.{ints}
use Rattle.std.proofs.lemmas.Option.{same_Some}
use Rattle.std.proofs.lemmas.Bool.{eqb-true}
use Rattle.cb_term.specs.declared.name.Name.{Name}
use Rattle.cb_term.specs.declared.kind.Kind.{Kind}
use Rattle.cb_term.specs.declared.kind.Kind.TheVariants as kind
use Rattle.cb_term.specs.declared.kind.Base.TheVariants as base
use Rattle.cb_term.specs.declared.kind.Domain.{Domain}
use Rattle.cb_term.specs.declared.kind.Domain.TheVariants as domain
use Rattle.cb_term.specs.declared.value.Value.{Value}
use Rattle.cb_term.specs.declared.value.Value.TheVariants as value
use Rattle.cb_term.specs.declared.table.SetNames.{SetNames}
use Rattle.cb_term.specs.Names.{same_name}
use Rattle.cb_term.specs.Values.{Look, set_at, IsOf}
use Rattle.cb_term.specs.Tree.{FormulaTree}
use Rattle.cb_term.proofs.FreeLemmas.{or_left, or_right}
use Rattle.cb_term.proofs.HoldsLemmas.{meets_gives}
use Rattle.cb_term.proofs.ValueLemmas.{same_name_tells, same_name_self}
use Rattle.cb_seq.specs.Kinds.{kind_in, Gives}
use Rattle.cb_seq.proofs.KindSound.{of_stable, kind_sound}
use Rattle.cb_spec.specs.declared.system.Channel.{Channel}
use Rattle.cb_spec.specs.declared.system.Controller.{Controller}
use Rattle.cb_spec.specs.declared.system.Declared.{Declared}
use Rattle.cb_spec.specs.declared.system.Machine.{Machine}
use Rattle.cb_spec.specs.declared.system.Operation.{Operation}
use Rattle.cb_spec.specs.declared.system.System.{System}
use Rattle.cb_spec.specs.SubstTree.{SubstTree, Skip, Assign, Together, Choice, If, AnyOf, SubstTrees, End, More}
use Rattle.cb_spec.specs.Domains.{kind_of_domain, In, HasElements}
use Rattle.cb_spec.specs.Stores.{Writes, found, over, empty}
use Rattle.cb_spec.specs.Bound.{names, result_names, is_among, AreOfKinds, GivesKinds, bind}
use Rattle.cb_spec.specs.Runs.{Runs, RunsOne}
use Rattle.cb_spec.specs.Forms.{Form, Number, Truth, Element, Numbers, TruthSet, Elements, Empty, form_of_domain, is_of_kind}
use Rattle.cb_spec.specs.Journals.{set_sizes}
use Rattle.cb_spec.specs.Machines.{with_args, kept}
use Rattle.cb_spec.specs.States.{IsAt}
use Rattle.cb_spec.specs.TypedTerms.{Scope, form_in}
use Rattle.cb_spec.specs.TypedSubsts.{TypedSubst, TypedSides}
use Rattle.cb_spec.specs.TypedSubsts as typed
use Rattle.cb_spec.specs.TypedProcesses.{AreNew, scope_of, scope_in}
use Rattle.cb_spec.specs.Typed.{global_names, targets_of, GivesDomains, TypedOperation, TypedMachine, Typed}
use Rattle.cb_spec.proofs.DomainLemmas.{domain_typing}
use Rattle.cb_spec.proofs.StoreLemmas.{over_is, or_look}
use Rattle.cb_obligations.specs.Written.{IsWritten}
use Rattle.cb_obligations.specs.Laws.{NamesUpTo}
use Rattle.cb_obligations.specs.Owed.{with_kinds}
use Rattle.cb_obligations.specs.Sufficing.{Differ, IsVariable, OperationFits, MachineFits, KeepsKinds}
use Rattle.cb_obligations.proofs.Stores.{set_here, set_other}
use Rattle.cb_obligations.proofs.Calls.{neither, kept_is, gives_kinds}
use Rattle.cb_typed.specs.Erasure.{kind_of_form, kinds_in}
use Rattle.cb_typed.specs.Laws.{TypedMachinesFit, TypedMachinesKeepKinds}
use Rattle.cb_typed.proofs.Erasing.{domain_kind, some_and}
use Rattle.cb_typed.proofs.Naming.{Scoped, as_kind, formula_names, formula_plain, subst_written, reads_known, run_writes, new_written, new_apart, new_differ, new_front, new_back, new_at, among_front, among_back, among_at}

module _ (sizes : List ℕ) where
  -- ---- values of kinds

  pub of_form_kind : (f : Form) (k : Kind) (v : Value) → is_of_kind f k ≡ true → IsOf sizes (kind_of_form f) v → IsOf sizes k v
  of_form_kind (Number lo hi) kind.Integer v e i = i
  of_form_kind Truth kind.Truth v e i = i
  of_form_kind (Element j) (kind.Elem k) v e i = subst (λ n. IsOf sizes (kind.Elem n) v) (eqb-true j k e) i
  of_form_kind (Numbers lo hi) (kind.SetOf base.Integer) v e i = i
  of_form_kind TruthSet (kind.SetOf base.Truth) v e i = i
  of_form_kind (Elements j) (kind.SetOf (base.Elem k)) v e i = subst (λ n. IsOf sizes (kind.SetOf (base.Elem n)) v) (eqb-true j k e) i
  of_form_kind Empty (kind.SetOf b) (value.Set []) e i = (tt, tt)
  of_form_kind Empty (kind.SetOf b) (value.Set (x ∷ xs)) e i = absurd i
  of_form_kind Empty (kind.SetOf b) (value.Int x) e i = absurd i
  of_form_kind Empty (kind.SetOf b) (value.Truth x) e i = absurd i
  of_form_kind Empty (kind.SetOf b) (value.Elem x) e i = absurd i
  of_form_kind Empty kind.EmptySet v e i = i
  of_form_kind f k v e i = cc

  pub in_kind : (d : Domain) (v : Value) → In sizes d v → IsOf sizes (kind_of_domain d) v
  in_kind d v i = ((domain_typing sizes d (λ y. v) (record { text = []; number = 0 })).0 i).0

  pub gives_set : (scope : Scope) (look : Look) (z : Name) (d : Domain) (v : Value) → Gives sizes look (kinds_in scope) → In sizes d v →
      Gives sizes (set_at look z v) (kinds_in ((z, form_of_domain d) ∷ scope))
  gives_set scope look z d v g i x k e = by (same_name x z) e
    where
      by : (b : Bool) → (if b then Some (kind_of_form (form_of_domain d)) else kind_in (kinds_in scope) x) ≡ Some k → IsOf sizes k (if b then v else look x)
      by true e = subst (λ j. IsOf sizes j v) (sym (domain_kind d) ∙ same_Some _ _ e) (in_kind d v i)
      by false e = g x k e

  -- ---- what a run writes

  module _ (targets : List (Name × Kind)) (x : Name) (k : Kind) (target : typed.kind_of_target targets x ≡ Some k) where
    abbrev OfKind : List (Name × Value) → Type 0
    OfKind d = (v : Value) → found d x ≡ Some v → IsOf sizes k v

    write_one : (y : Name) (l : Kind) (u : Value) → typed.kind_of_target targets y ≡ Some l → IsOf sizes l u → OfKind ((y, u) ∷ [])
    write_one y l u e i v h = by (same_name x y) refl h
      where
        by : (b : Bool) → same_name x y ≡ b → (if b then Some u else None) ≡ Some v → IsOf sizes k v
        by true s h =
            let l_is : l ≡ k = same_Some l k (sym e ∙ ap (typed.kind_of_target targets) (sym (same_name_tells x y s)) ∙ target) in
            subst (IsOf sizes k) (same_Some u v h) (subst (λ j. IsOf sizes j u) l_is i)
        by false s h = cc

    write_both : (d e : List (Name × Value)) → OfKind d → OfKind e → OfKind (d ++ e)
    write_both [] e p q v h = q v h
    write_both (w ∷ d) e p q v h = by (same_name x w.0) p h (λ p'. write_both d e p' q v)
      where
        by : (b : Bool) → ((u : Value) → (if b then Some w.1 else found d x) ≡ Some u → IsOf sizes k u) → (if b then Some w.1 else found (d ++ e) x) ≡ Some v →
            (OfKind d → found (d ++ e) x ≡ Some v → IsOf sizes k v) → IsOf sizes k v
        by true p h r = p v h
        by false p h r = r p h

    mutual
      pub run_kinds : (s : SubstTree) (scope : Scope) (taken : List Name) (look : Look) (d : List (Name × Value)) → TypedSubst sizes targets scope taken s →
          Gives sizes look (kinds_in scope) → Runs sizes s look d → OfKind d
      run_kinds Skip scope taken look d w g r = λ v h. let e : found [] x ≡ Some v = subst (λ z. found z x ≡ Some v) r h in cc
      run_kinds (Assign y t) scope taken look d w g r =
          let p = some_and (typed.kind_of_target targets y) _ w in
          let f = as_kind sizes scope taken p.0 t p.2 in
          let value = meets_gives sizes look t [] r.0 (IsOf sizes (kind_of_form f.0)) (of_stable sizes (kind_of_form f.0) r.0) r.1.0 (kind_sound sizes look (kinds_in scope) g t [] [] (kind_of_form f.0) f.1 tt) in
          let q = some_and _ _ p.2.1 in
          let same : q.0 ≡ f.0 = same_Some q.0 f.0 (sym q.1 ∙ f.2) in
          subst OfKind (sym r.1.1) (write_one y p.0 r.0 p.1 (of_form_kind f.0 p.0 r.0 (subst (λ z. is_of_kind z p.0 ≡ true) same q.2) value))
      run_kinds (Together a b) scope taken look d w g r = subst OfKind (sym r.1.1.3)
          (write_both r.0 r.1.0 (run_kinds a scope taken look r.0 w.0 g r.1.1.0) (run_kinds b scope taken look r.1.0 w.1 g r.1.1.1))
      run_kinds (Choice ss) scope taken look d w g r = one_kinds ss scope taken look d w g r
      run_kinds (If p a b) scope taken look d w g r = elim r [ inl t ↦ run_kinds a scope taken look d w.1 g t.1 | inr t ↦ run_kinds b scope taken look d w.2 g t.1 ]
      run_kinds (AnyOf z dom p s) scope taken look d w g r =
          run_kinds s ((z, form_of_domain dom) ∷ scope) (z ∷ taken) (set_at look z r.0) d w.4 (gives_set scope look z dom r.0 g r.1.0) r.1.2

      pub one_kinds : (ss : SubstTrees) (scope : Scope) (taken : List Name) (look : Look) (d : List (Name × Value)) → TypedSides sizes targets scope taken ss →
          Gives sizes look (kinds_in scope) → RunsOne sizes ss look d → OfKind d
      one_kinds End scope taken look d w g r = absurd r
      one_kinds (More s ss) scope taken look d w g r = elim r [ inl t ↦ run_kinds s scope taken look d w.0 g t | inr t ↦ one_kinds ss scope taken look d w.1 g t ]

  -- ---- declared names

  pub kind_of_declared : (ds : List Declared) (x : Name) (k : Kind) → kind_in (with_kinds ds) x ≡ Some k → is_among x (names ds) ≡ true
  kind_of_declared [] x k e = cc
  kind_of_declared (d ∷ ds) x k e = by (same_name x d.name) e (kind_of_declared ds x k)
    where
      by : (b : Bool) → (if b then Some (kind_of_domain d.domain) else kind_in (with_kinds ds) x) ≡ Some k → (kind_in (with_kinds ds) x ≡ Some k → is_among x (names ds) ≡ true) → (b || is_among x (names ds)) ≡ true
      by true e r = refl
      by false e r = r e

  pub each_kind : (ds : List Declared) (look : Look) → Differ (names ds) → Gives sizes look (with_kinds ds) → GivesKinds sizes ds look
  each_kind [] look n g = tt
  each_kind (d ∷ ds) look n g = (
    g d.name (kind_of_domain d.domain) (ap (λ b. if b then Some (kind_of_domain d.domain) else kind_in (with_kinds ds) d.name) (same_name_self d.name)),
    each_kind ds look n.1 (λ x k e. g x k (ap (λ b. if b then Some (kind_of_domain d.domain) else kind_in (with_kinds ds) x) (apart x (kind_of_declared ds x k e)) ∙ e)),
  )
    where
      apart : (x : Name) → is_among x (names ds) ≡ true → same_name x d.name ≡ false
      apart x e = by (same_name x d.name) refl
        where
          by : (b : Bool) → same_name x d.name ≡ b → b ≡ false
          by true s = absurd (true≢false (sym e ∙ ap (λ z. is_among z (names ds)) (same_name_tells x d.name s) ∙ n.0))
          by false s = refl

  -- the scope of declared names tells their kinds
  pub scope_kinds : (ds : List Declared) → kinds_in (scope_of ds) ≡ with_kinds ds
  scope_kinds [] = refl
  scope_kinds (d ∷ ds) = ap (λ k. (d.name, k) ∷ kinds_in (scope_of ds)) (domain_kind d.domain) ∙ ap (λ z. (d.name, kind_of_domain d.domain) ∷ z) (scope_kinds ds)

  pub targets_kind : (ds : List Declared) (x : Name) → typed.kind_of_target (targets_of ds) x ≡ kind_in (with_kinds ds) x
  targets_kind [] x = refl
  targets_kind (d ∷ ds) x = ap (λ o. if same_name x d.name then Some (kind_of_domain d.domain) else o) (targets_kind ds x)

  pub declared_in : (ds : List Declared) (x : Name) (f : Form) → form_in (scope_of ds) x ≡ Some f → is_among x (names ds) ≡ true
  declared_in [] x f e = cc
  declared_in (d ∷ ds) x f e = by (same_name x d.name) e (declared_in ds x f)
    where
      by : (b : Bool) → (if b then Some (form_of_domain d.domain) else form_in (scope_of ds) x) ≡ Some f → (form_in (scope_of ds) x ≡ Some f → is_among x (names ds) ≡ true) → (b || is_among x (names ds)) ≡ true
      by true e r = refl
      by false e r = r e

  pub form_both : (s t : Scope) (x : Name) (f : Form) (C : Type 0) → form_in (s ++ t) x ≡ Some f → (form_in s x ≡ Some f → C) → (form_in t x ≡ Some f → C) → C
  form_both [] t x f C e p q = q e
  form_both (c ∷ s) t x f C e p q = by (same_name x c.0) e p (λ e' p'. form_both s t x f C e' p' q)
    where
      by : (b : Bool) → (if b then Some c.1 else form_in (s ++ t) x) ≡ Some f → ((if b then Some c.1 else form_in s x) ≡ Some f → C) →
          (form_in (s ++ t) x ≡ Some f → (form_in s x ≡ Some f → C) → C) → C
      by true e p r = p e
      by false e p r = r e p

  -- parameters and variables with values of their kinds
  pub gives_both : (ps vs : Scope) (d : List (Name × Value)) (look : Look) → Gives sizes (over d look) (kinds_in ps) → Gives sizes look (kinds_in vs) →
      ((x : Name) (k : Kind) → kind_in (kinds_in ps) x ≡ None → kind_in (kinds_in vs) x ≡ Some k → over d look x ≡ look x) → Gives sizes (over d look) (kinds_in (ps ++ vs))
  gives_both ps vs d look g h same x k e = by (kind_in (kinds_in ps) x) refl
    where
      tail : (ps : Scope) → kind_in (kinds_in ps) x ≡ None → kind_in (kinds_in (ps ++ vs)) x ≡ kind_in (kinds_in vs) x
      tail [] n = refl
      tail (p ∷ ps) n = step (same_name x p.0) n (tail ps)
        where
          step : (b : Bool) → (if b then Some (kind_of_form p.1) else kind_in (kinds_in ps) x) ≡ None → (kind_in (kinds_in ps) x ≡ None → kind_in (kinds_in (ps ++ vs)) x ≡ kind_in (kinds_in vs) x) →
              (if b then Some (kind_of_form p.1) else kind_in (kinds_in (ps ++ vs)) x) ≡ kind_in (kinds_in vs) x
          step true n r = cc
          step false n r = r n

      head : (ps : Scope) (l : Kind) → kind_in (kinds_in ps) x ≡ Some l → kind_in (kinds_in (ps ++ vs)) x ≡ Some l
      head [] l n = cc
      head (p ∷ ps) l n = step (same_name x p.0) n (head ps l)
        where
          step : (b : Bool) → (if b then Some (kind_of_form p.1) else kind_in (kinds_in ps) x) ≡ Some l → (kind_in (kinds_in ps) x ≡ Some l → kind_in (kinds_in (ps ++ vs)) x ≡ Some l) →
              (if b then Some (kind_of_form p.1) else kind_in (kinds_in (ps ++ vs)) x) ≡ Some l
          step true n r = n
          step false n r = r n

      by : (o : Option Kind) → kind_in (kinds_in ps) x ≡ o → IsOf sizes k (over d look x)
      by None n = let e' = sym (tail ps n) ∙ e in subst (IsOf sizes k) (sym (same x k n e')) (h x k e')
      by (Some l) n = g x k (n ∙ sym (head ps l n) ∙ e)

  pub args_give : (ds : List Declared) (vs : List Value) (look : Look) → Differ (names ds) → AreOfKinds sizes ds vs → Gives sizes (over (bind (names ds) vs) look) (with_kinds ds)
  args_give [] [] look n a x k e = cc
  args_give [] (v ∷ vs) look n a x k e = absurd a
  args_give (d ∷ ds) [] look n a x k e = absurd a
  args_give (d ∷ ds) (v ∷ vs) look n a x k e = by (same_name x d.name) e (args_give ds vs look n.1 a.1 x k)
    where
      by : (b : Bool) → (if b then Some (kind_of_domain d.domain) else kind_in (with_kinds ds) x) ≡ Some k → (kind_in (with_kinds ds) x ≡ Some k → IsOf sizes k (over (bind (names ds) vs) look x)) →
          IsOf sizes k (if b then v else over (bind (names ds) vs) look x)
      by true e r = subst (λ j. IsOf sizes j v) (same_Some _ _ e) a.0
      by false e r = r e

  pub args_stay : (ds : List Declared) (vs : List Value) (look : Look) (x : Name) → is_among x (names ds) ≡ false → over (bind (names ds) vs) look x ≡ look x
  args_stay [] vs look x e = refl
  args_stay (d ∷ ds) [] look x e = by (same_name x d.name) e (args_stay ds [] look x)
    where
      by : (b : Bool) → (b || is_among x (names ds)) ≡ false → (is_among x (names ds) ≡ false → over (bind (names ds) []) look x ≡ look x) → (if b then value.Int (pos 0) else over (bind (names ds) []) look x) ≡ look x
      by true e r = cc
      by false e r = r e
  args_stay (d ∷ ds) (v ∷ vs) look x e = by (same_name x d.name) e (args_stay ds vs look x)
    where
      by : (b : Bool) → (b || is_among x (names ds)) ≡ false → (is_among x (names ds) ≡ false → over (bind (names ds) vs) look x ≡ look x) → (if b then v else over (bind (names ds) vs) look x) ≡ look x
      by true e r = cc
      by false e r = r e

  -- ---- some values

  element : (d : Domain) → HasElements sizes d → (v : Value) × In sizes d v
  element (domain.Range lo hi) h = (value.Int lo, (omega (arith, ints), h))
  element domain.Truth h = (value.Truth true, tt)
  element (domain.Elems set) h = (value.Elem 0, h)
  element (domain.Subsets lo hi) h = (value.Set [], (tt, tt))
  element (domain.ElemSubsets set) h = (value.Set [], (tt, tt))

  typed_domains : (ds : List Declared) (f : FormulaTree) → GivesDomains sizes ds f → (look : Look) → Differ (names ds) →
      (look' : Look) × GivesKinds sizes ds look' × ((x : Name) → is_among x (names ds) ≡ false → look' x ≡ look x)
  typed_domains [] f g look n = (look, tt, (λ x e. refl))
  typed_domains (d ∷ ds) f g look n =
      let r = typed_domains ds f g.2 look n.1 in
      let v = element d.domain g.0.0 in (
        set_at r.0 d.name v.0,
        (
          subst (IsOf sizes (kind_of_domain d.domain)) (sym (set_here r.0 d.name v.0)) (in_kind d.domain v.0 v.1),
          each_kind ds (set_at r.0 d.name v.0) n.1 (λ x k e. subst (IsOf sizes k) (sym (set_other r.0 d.name v.0 x (apart x k e))) (gives_kinds sizes ds r.0 r.1 x k e)),
        ),
        (λ x e. let p = neither (same_name x d.name) (is_among x (names ds)) e in set_other r.0 d.name v.0 x p.0 ∙ r.2 x p.1),
      )
    where
      apart : (x : Name) (k : Kind) → kind_in (with_kinds ds) x ≡ Some k → same_name x d.name ≡ false
      apart x k e = by (same_name x d.name) refl
        where
          by : (b : Bool) → same_name x d.name ≡ b → b ≡ false
          by true s = absurd (true≢false (sym (kind_of_declared ds x k e) ∙ ap (λ z. is_among z (names ds)) (same_name_tells x d.name s) ∙ n.0))
          by false s = refl

pub declared_at : (ds : List Declared) (x : Name) → is_among x (names ds) ≡ true → (d : Declared) × Contains ds d × (x ≡ d.name)
declared_at [] x e = cc
declared_at (d ∷ ds) x e = by (same_name x d.name) refl e (declared_at ds x)
  where
    by : (b : Bool) → same_name x d.name ≡ b → (b || is_among x (names ds)) ≡ true → (is_among x (names ds) ≡ true → (c : Declared) × Contains ds c × (x ≡ c.name)) →
        (c : Declared) × Contains (d ∷ ds) c × (x ≡ c.name)
    by true s e r = (d, (0, omega arith, refl), same_name_tells x d.name s)
    by false s e r = let q = r e in (q.0, (suc q.1.0, omega (arith, q.1.1), q.1.2), q.2)

-- results stand before the variables
pub result_target : (rs ts : List (Name × Kind)) (x : Name) (k : Kind) (C : Type 0) → typed.kind_of_target (rs ++ ts) x ≡ Some k →
    (is_among x (result_names rs) ≡ true → C) → (typed.kind_of_target ts x ≡ Some k → C) → C
result_target [] ts x k C e p q = q e
result_target (r ∷ rs) ts x k C e p q = by (same_name x r.0) e p (λ e' p'. result_target rs ts x k C e' p' q)
  where
    by : (b : Bool) → (if b then Some r.1 else typed.kind_of_target (rs ++ ts) x) ≡ Some k → ((b || is_among x (result_names rs)) ≡ true → C) →
        (typed.kind_of_target (rs ++ ts) x ≡ Some k → (is_among x (result_names rs) ≡ true → C) → C) → C
    by true e p r = p refl
    by false e p r = r e p

pub no_result : (rs ts : List (Name × Kind)) (x : Name) → is_among x (result_names rs) ≡ false → typed.kind_of_target (rs ++ ts) x ≡ typed.kind_of_target ts x
no_result [] ts x e = refl
no_result (r ∷ rs) ts x e =
    let n = neither (same_name x r.0) (is_among x (result_names rs)) e in
    ap (λ b. if b then Some r.1 else typed.kind_of_target (rs ++ ts) x) n.0 ∙ no_result rs ts x n.1

-- ---- the machines of a typed system

module _ (y : System) (t : Typed y) (k : ℕ) (m : Machine) (at : IsAt y.machines k m) where
  abbrev pub sizes : List ℕ
  sizes = set_sizes y

  pub typed_machine : TypedMachine y m
  typed_machine = t.machines k m at

  -- the global names that are declared before the variables, the variables, and those after
  abbrev pub before : List Name
  before = map (λ (s : SetNames). s.name) y.sets.sets.items ++ flat_map (λ (s : SetNames). s.elements) y.sets.sets.items
      ++ map (λ (c : Name × ℤ). c.0) y.constants ++ map (λ (m : Machine). m.name) y.machines

  abbrev pub of_variables : List Name
  of_variables = flat_map (λ (m : Machine). names m.variables) y.machines

  abbrev pub of_channels : List Name
  of_channels = map (λ (c : Channel). c.name) y.channels

  abbrev pub of_controllers : List Name
  of_controllers = map (λ (c : Controller). c.name) y.controllers

  pub all_names : global_names y ≡ before ++ of_variables ++ of_channels ++ of_controllers
  all_names = refl

  pub new_variables : (taken : List Name) × AreNew taken (names m.variables)
  new_variables =
      let n : AreNew [] (before ++ of_variables ++ of_channels ++ of_controllers) = subst (AreNew []) all_names t.names_differ in
      let a = new_front [] (before ++ of_variables) of_channels (new_front [] (before ++ of_variables ++ of_channels) of_controllers n) in
      let b = new_back [] before of_variables a in
      new_at (λ (m : Machine). names m.variables) y.machines b.0 b.1 k m at

  pub variable_global : (x : Name) → is_among x (names m.variables) ≡ true → is_among x (global_names y) ≡ true
  variable_global x e = subst (λ ns. is_among x ns ≡ true) (sym all_names)
      (among_front x (before ++ of_variables ++ of_channels) of_controllers (among_front x (before ++ of_variables) of_channels
      (among_back x before of_variables (among_at (λ (m : Machine). names m.variables) y.machines k m x at e))))

  pub variables_differ : Differ (names m.variables)
  variables_differ = new_differ new_variables.0 (names m.variables) new_variables.1

  pub variable_written : (x : Name) → is_among x (names m.variables) ≡ true → IsWritten x
  variable_written = new_written new_variables.0 (names m.variables) new_variables.1

  pub variables_up : (ds : List Declared) → ((x : Name) → is_among x (names ds) ≡ true → IsWritten x) → NamesUpTo 0 (with_kinds ds)
  variables_up [] h = tt
  variables_up (d ∷ ds) h = (
    omega (arith, h d.name (or_left (same_name d.name d.name) (is_among d.name (names ds)) (same_name_self d.name))),
    variables_up ds (λ x e. h x (or_right (same_name x d.name) (is_among x (names ds)) e)),
  )

  pub scope_written : Scoped IsWritten (scope_of m.variables)
  scope_written x f e = variable_written x (declared_in sizes m.variables x f e)

  pub target_written : (x : Name) (l : Kind) → typed.kind_of_target (targets_of m.variables) x ≡ Some l → IsWritten x
  target_written x l e = variable_written x (kind_of_declared sizes m.variables x l (sym (targets_kind sizes m.variables x) ∙ e))

  module _ (j : ℕ) (o : Operation) (of : TypedOperation y m o) where
    pub new_params : AreNew (global_names y) (names o.params)
    new_params = new_front (global_names y) (names o.params) (result_names o.results) of.new_names

    pub new_results : (taken : List Name) × AreNew taken (result_names o.results)
    new_results = new_back (global_names y) (names o.params) (result_names o.results) of.new_names

    pub no_param : (x : Name) → IsVariable m x → is_among x (names o.params) ≡ false
    no_param x e = new_apart (global_names y) (names o.params) new_params x (variable_global x e)

    pub variable_no_result : (x : Name) → IsVariable m x → is_among x (result_names o.results) ≡ false
    variable_no_result x e = (split (names o.params) (new_apart (global_names y) (names o.params ++ result_names o.results) of.new_names x (variable_global x e)))
      where
        split : (ps : List Name) → is_among x (ps ++ result_names o.results) ≡ false → is_among x (result_names o.results) ≡ false
        split [] e = e
        split (p ∷ ps) e = split ps (neither (same_name x p) (is_among x (ps ++ result_names o.results)) e).1

    pub inside_written : Scoped IsWritten (scope_in m o)
    inside_written x f e = form_both sizes (scope_of o.params) (scope_of m.variables) x f (IsWritten x) e
        (λ p. new_written (global_names y) (names o.params) new_params x (declared_in sizes o.params x f p)) (λ v. scope_written x f v)

    targets_written : (x : Name) (l : Kind) → typed.kind_of_target (o.results ++ targets_of m.variables) x ≡ Some l → IsWritten x
    targets_written x l e = result_target o.results (targets_of m.variables) x l (IsWritten x) e
        (λ r. new_written new_results.0 (result_names o.results) new_results.1 x r) (λ v. target_written x l v)

    operation_fits : OperationFits sizes m o
    operation_fits = record {
      pre_plain = formula_plain sizes (scope_in m o) (names o.params ++ result_names o.results ++ global_names y) inside_written o.pre of.precondition;
      body_written = subst_written sizes (o.results ++ targets_of m.variables) targets_written o.body (scope_in m o) (names o.params ++ result_names o.results ++ global_names y) inside_written of.body;
      body_fits = of.body_fits;
      params_differ = new_differ (global_names y) (names o.params) new_params;
      apart = no_param;
    }

    operation_keeps : (look : Look) (vs : List Value) (d : Writes) → GivesKinds sizes m.variables look → AreOfKinds sizes o.params vs →
        Runs sizes o.body (with_args o vs look) d → GivesKinds sizes m.variables (kept m d look)
    operation_keeps look vs d g a r = each_kind sizes m.variables (kept m d look) variables_differ (λ x k e. by x k e (found d x) refl)
      where
        gives : Gives sizes (with_args o vs look) (kinds_in (scope_in m o))
        gives = gives_both sizes (scope_of o.params) (scope_of m.variables) (bind (names o.params) vs) look
            (subst (Gives sizes (with_args o vs look)) (sym (scope_kinds sizes o.params)) (args_give sizes o.params vs look (new_differ (global_names y) (names o.params) new_params) a))
            (subst (Gives sizes look) (sym (scope_kinds sizes m.variables)) (gives_kinds sizes m.variables look g))
            (λ x k n e. args_stay sizes o.params vs look x (no_param x (kind_of_declared sizes m.variables x k (subst (λ ns. kind_in ns x ≡ Some k) (scope_kinds sizes m.variables) e))))

        by : (x : Name) (k : Kind) → kind_in (with_kinds m.variables) x ≡ Some k → (v : Option Value) → found d x ≡ v → IsOf sizes k (kept m d look x)
        by x k e v f =
            let among = kind_of_declared sizes m.variables x k e in
            let is : kept m d look x ≡ or_look v (look x) = kept_is (names m.variables) d look x among ∙ over_is d look x ∙ ap (λ z. or_look z (look x)) f in
            subst (IsOf sizes k) (sym is) (value v f)
          where
            value : (v : Option Value) → found d x ≡ v → IsOf sizes k (or_look v (look x))
            value None f = gives_kinds sizes m.variables look g x k e
            value (Some w) f = run_kinds sizes (o.results ++ targets_of m.variables) x k
                (no_result o.results (targets_of m.variables) x (variable_no_result x (kind_of_declared sizes m.variables x k e)) ∙ targets_kind sizes m.variables x ∙ e)
                o.body (scope_in m o) (names o.params ++ result_names o.results ++ global_names y) (with_args o vs look) d of.body gives r w f

  init_writes : (d : Writes) → Runs sizes m.init empty d → (x : Name) → IsVariable m x → IsSome (found d x)
  init_writes d r x e =
      let c = declared_at m.variables x e in
      subst (λ z. IsSome (found d z)) (sym c.2) (run_writes sizes c.0.name m.init empty d (typed_machine.writes_variables c.0 c.1) r)

  init_keeps : (d : Writes) → Runs sizes m.init empty d → GivesKinds sizes m.variables (kept m d empty)
  init_keeps d r = each_kind sizes m.variables (kept m d empty) variables_differ
      (λ x k e. by x k e (found d x) refl (init_writes d r x (kind_of_declared sizes m.variables x k e)))
    where
      by : (x : Name) (k : Kind) → kind_in (with_kinds m.variables) x ≡ Some k → (v : Option Value) → found d x ≡ v → IsSome (found d x) → IsOf sizes k (kept m d empty x)
      by x k e None f h = let none : IsSome {T = Value} None = subst (λ z. IsSome {T = Value} z) f h in cc
      by x k e (Some w) f h =
          let among = kind_of_declared sizes m.variables x k e in
          let is : kept m d empty x ≡ w = kept_is (names m.variables) d empty x among ∙ over_is d empty x ∙ ap (λ z. or_look z (empty x)) f in
          subst (IsOf sizes k) (sym is) (run_kinds sizes (targets_of m.variables) x k (targets_kind sizes m.variables x ∙ e) m.init [] (global_names y) empty d typed_machine.init (λ z l n. cc) r w f)

  pub fits_of_typed : MachineFits sizes m
  fits_of_typed =
      let some = typed_domains sizes m.variables m.invariant typed_machine.domains empty variables_differ in
      record {
        variables_written = variables_up m.variables variable_written;
        invariant_plain = formula_plain sizes (scope_of m.variables) (global_names y) scope_written m.invariant typed_machine.invariant;
        invariant_names = formula_names sizes (scope_of m.variables) (global_names y) (IsVariable m) (λ x f e. declared_in sizes m.variables x f e) m.invariant typed_machine.invariant;
        init_written = subst_written sizes (targets_of m.variables) target_written m.init [] (global_names y) (λ x f e. cc) typed_machine.init;
        init_fits = typed_machine.init_fits;
        init_reads = λ x e. reads_known sizes (targets_of m.variables) x m.init [] (global_names y) typed_machine.init refl e;
        init_writes = init_writes;
        operations = λ j o i. operation_fits j o (typed_machine.operations j o i);
        some_values = (some.0, some.1);
      }

  pub keeps_of_typed : KeepsKinds sizes m
  keeps_of_typed = record {
    begins = init_keeps;
    stays = λ j o i look vs d g a r. operation_keeps j o (typed_machine.operations j o i) look vs d g a r;
  }

pub typed_machines_fit : TypedMachinesFit
typed_machines_fit y t k m at = fits_of_typed y t k m at

pub typed_machines_keep_kinds : TypedMachinesKeepKinds
typed_machines_keep_kinds y t k m at = keeps_of_typed y t k m at
