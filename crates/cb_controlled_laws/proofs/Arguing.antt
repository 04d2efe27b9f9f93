-- The arguments of each call in a typed system are of the kinds of the parameters.
use Rattle.std.proofs.Common.{◌≡◌, ℕ, zero, suc, ◌==◌, Bool, true, false, ◌||◌, List, [], ◌∷◌, ◌++◌, map, length, Option, Some, None, IsSome, IsSomeAnd, slice_get, refl, sym, ap, ◌∙◌, subst, arith, if◌then◌else◌, true≢false}
use Rattle.std.specs.Prelude.{Contains}
use Rattle.std.proofs.lemmas.Option.{same_Some}
use Rattle.std.proofs.lemmas.Bool.{eqb-true, eqb-false}
use Rattle.cb_term.specs.declared.name.Name.{Name}
use Rattle.cb_term.specs.declared.kind.Kind.{Kind}
use Rattle.cb_term.specs.declared.kind.Kind.TheVariants as kind
use Rattle.cb_term.specs.declared.kind.Base.TheVariants as base
use Rattle.cb_term.specs.declared.value.Value.{Value}
use Rattle.cb_term.specs.Names.{same_name}
use Rattle.cb_term.specs.Tree.{TermTree}
use Rattle.cb_term.specs.Values.{Look, nothing, IsOf}
use Rattle.cb_term.proofs.HoldsLemmas.{meets_gives}
use Rattle.cb_term.proofs.ValueLemmas.{same_name_tells, same_name_self}
use Rattle.cb_seq.specs.Kinds.{kind_in, Gives}
use Rattle.cb_seq.proofs.KindSound.{of_stable, kind_sound}
use Rattle.cb_spec.specs.declared.event.Event.TheVariants as event
use Rattle.cb_spec.specs.declared.system.Controller.{Controller}
use Rattle.cb_spec.specs.declared.system.Declared.{Declared}
use Rattle.cb_spec.specs.declared.system.Machine.{Machine}
use Rattle.cb_spec.specs.declared.system.Operation.{Operation}
use Rattle.cb_spec.specs.declared.system.System.{System}
use Rattle.cb_spec.specs.ProcessTree.{ProcessTree, Stop, Skip, Call, Prefix, Choice, Internal, If}
use Rattle.cb_spec.specs.Domains.{kind_of_domain}
use Rattle.cb_spec.specs.Stores.{Writes, found, over, empty, look_of}
use Rattle.cb_spec.specs.Bound.{names, result_names, is_among, bind, bound_look, AreOfKinds, GivesKinds}
use Rattle.cb_spec.specs.Runs.{Runs}
use Rattle.cb_spec.specs.Forms.{Form, Number, Truth, Element, Numbers, TruthSet, Elements, Empty, form_of_domain, is_of_kind}
use Rattle.cb_spec.specs.Journals.{set_sizes, results_after}
use Rattle.cb_spec.specs.Machines.{with_args, kept}
use Rattle.cb_spec.specs.Settling.{AreValues}
use Rattle.cb_spec.specs.States.{IsAt}
use Rattle.cb_spec.specs.TypedTerms.{Scope, TypedAs}
use Rattle.cb_spec.specs.TypedSubsts as typed
use Rattle.cb_spec.specs.TypedSubsts.{assigned_form, result_form, always_writes}
use Rattle.cb_spec.specs.TypedProcesses.{scope_of, kinds_of, scope_at, scope_in, scope_with, result_forms, TypedArgs, TypedProcess}
use Rattle.cb_spec.specs.Typed.{global_names, targets_of, TypedOperation, Typed}
use Rattle.cb_spec.proofs.StoreLemmas.{over_is, or_look}
use Rattle.cb_obligations.specs.Owed.{with_kinds}
use Rattle.cb_obligations.specs.Sufficing.{Differ}
use Rattle.cb_obligations.proofs.Calls.{over_outside, gives_kinds, at_some}
use Rattle.cb_typed.specs.Erasure.{kind_of_form, kinds_in}
use Rattle.cb_typed.proofs.Erasing.{some_and}
use Rattle.cb_typed.proofs.Naming.{as_kind, run_writes, new_differ}
use Rattle.cb_typed.proofs.Fitting.{of_form_kind, run_kinds, scope_kinds, gives_both, args_give, args_stay, kind_of_declared, typed_machine, new_params, new_results, no_param, keeps_of_typed}
use Rattle.cb_conditions.specs.Conditions.{declared_as}
use Rattle.cb_conditions.specs.Sufficing.{CallsKinded}
use Rattle.cb_conditions.proofs.Values.{only_outside, names_as, kinds_as, in_kinds}
use Rattle.cb_conditions.proofs.Groups.{kinds_agree}
use Rattle.cb_controlled_laws.specs.Laws.{TypedControllersKinded}
use Rattle.cb_controlled_laws.proofs.Owning.{one_machine}

is_at : {A : Type 0} (o : Option A) (P : A → Type 0) (a : A) → IsSomeAnd o P → o ≡ Some a → P a
is_at None P a h e = absurd h
is_at (Some b) P a h e = subst P (same_Some b a e) h

-- ---- typed terms

module _ (sizes : List ℕ) (scope : Scope) (taken : List Name) (env : Look) (g : Gives sizes env (kinds_in scope)) where
  arg_kind : (k : Kind) (t : TermTree) (v : Value) → TypedAs sizes scope taken k t → AreValues sizes env (t ∷ []) (v ∷ []) → IsOf sizes k v
  arg_kind k t v w is =
      let f = as_kind sizes scope taken k t w in
      let value = meets_gives sizes env t [] v (IsOf sizes (kind_of_form f.0)) (of_stable sizes (kind_of_form f.0) v) is.0 (kind_sound sizes env (kinds_in scope) g t [] [] (kind_of_form f.0) f.1 tt) in
      let q = some_and _ _ w.1 in
      let same : q.0 ≡ f.0 = same_Some q.0 f.0 (sym q.1 ∙ f.2) in
      of_form_kind sizes f.0 k v (subst (λ z. is_of_kind z k ≡ true) same q.2) value

  pub args_kinds : (ds : List Declared) (ts : List TermTree) (vs : List Value) → TypedArgs sizes scope taken (kinds_of ds) ts → AreValues sizes env ts vs → AreOfKinds sizes ds vs
  args_kinds [] [] [] w a = tt
  args_kinds [] [] (v ∷ vs) w a = absurd a
  args_kinds [] (t ∷ ts) vs w a = absurd w
  args_kinds (d ∷ ds) [] vs w a = absurd w
  args_kinds (d ∷ ds) (t ∷ ts) [] w a = absurd a
  args_kinds (d ∷ ds) (t ∷ ts) (v ∷ vs) w a = (arg_kind (kind_of_domain d.domain) t v w.0 (a.0, tt), args_kinds ds ts vs w.1 a.1)

-- ---- inputs

pub scope_as : (xs : List Name) (ds : List Declared) → scope_at xs ds ≡ scope_of (declared_as xs ds)
scope_as [] ds = refl
scope_as (x ∷ xs) [] = refl
scope_as (x ∷ xs) (d ∷ ds) = ap (λ s. (x, form_of_domain d.domain) ∷ s) (scope_as xs ds)

no_kind : (ds : List Declared) (x : Name) → kind_in (kinds_in (scope_of ds)) x ≡ None → is_among x (names ds) ≡ false
no_kind [] x e = refl
no_kind (d ∷ ds) x e = by (same_name x d.name) e (no_kind ds x)
  where
    by : (b : Bool) → (if b then Some (kind_of_form (form_of_domain d.domain)) else kind_in (kinds_in (scope_of ds)) x) ≡ None → (kind_in (kinds_in (scope_of ds)) x ≡ None → is_among x (names ds) ≡ false) →
        (b || is_among x (names ds)) ≡ false
    by true e r = cc
    by false e r = r e

module _ (sizes : List ℕ) where
  inputs_give : (xs : List Name) (ds : List Declared) (vs : List Value) (scope : Scope) (env : Look) → length xs ≡ length ds → Differ xs → AreOfKinds sizes ds vs → Gives sizes env (kinds_in scope) →
      Gives sizes (over (bind xs vs) env) (kinds_in (scope_at xs ds ++ scope))
  inputs_give xs ds vs scope env len df k g =
      let es = declared_as xs ds in
      let same = names_as sizes xs ds len in
      let l = over (bind xs vs) env in
      let one : Gives sizes (over (bind (names es) vs) env) (with_kinds es) = args_give sizes es vs env (subst Differ (sym same) df) (kinds_as sizes xs ds vs len k) in
      let two : Gives sizes l (with_kinds es) = subst (λ zs. Gives sizes (over (bind zs vs) env) (with_kinds es)) same one in
      let three : Gives sizes l (kinds_in (scope_of es)) = subst (Gives sizes l) (sym (scope_kinds sizes es)) two in
      let all = gives_both sizes (scope_of es) scope (bind xs vs) env three g
      (λ x j n e. over_outside xs vs env x (subst (λ zs. is_among x zs ≡ false) same (no_kind es x n))) in
      subst (λ s. Gives sizes l (kinds_in (s ++ scope))) (sym (scope_as xs ds)) all

  -- ---- results

  abbrev FormsOf : List Form → List Value → Type 0
  FormsOf [] us = Unit {0}
  FormsOf (g ∷ gs) [] = ⊥
  FormsOf (g ∷ gs) (u ∷ us) = IsOf sizes (kind_of_form g) u × FormsOf gs us

  with_give : (xs : List Name) (gs : List Form) (us : List Value) (env : Look) → FormsOf gs us → Gives sizes (over (bind xs us) env) (kinds_in (scope_with xs gs))
  with_give [] gs us env h x k e = cc
  with_give (z ∷ xs) [] us env h x k e = cc
  with_give (z ∷ xs) (g ∷ gs) [] env h x k e = absurd h
  with_give (z ∷ xs) (g ∷ gs) (u ∷ us) env h x k e = by (same_name x z) e (with_give xs gs us env h.1 x k)
    where
      by : (b : Bool) → (if b then Some (kind_of_form g) else kind_in (kinds_in (scope_with xs gs)) x) ≡ Some k →
          (kind_in (kinds_in (scope_with xs gs)) x ≡ Some k → IsOf sizes k (over (bind xs us) env x)) → IsOf sizes k (if b then u else over (bind xs us) env x)
      by true e r = subst (λ j. IsOf sizes j u) (same_Some (kind_of_form g) k e) h.0
      by false e r = r e

  with_none : (xs : List Name) (gs : List Form) (x : Name) → length xs ≡ length gs → kind_in (kinds_in (scope_with xs gs)) x ≡ None → is_among x xs ≡ false
  with_none [] gs x len e = refl
  with_none (z ∷ xs) [] x len e = absurd (omega (arith, len))
  with_none (z ∷ xs) (g ∷ gs) x len e = by (same_name x z) e (with_none xs gs x (omega (arith, len)))
    where
      by : (b : Bool) → (if b then Some (kind_of_form g) else kind_in (kinds_in (scope_with xs gs)) x) ≡ None → (kind_in (kinds_in (scope_with xs gs)) x ≡ None → is_among x xs ≡ false) →
          (b || is_among x xs) ≡ false
      by true e r = cc
      by false e r = r e

  results_give : (xs : List Name) (gs : List Form) (us : List Value) (scope : Scope) (env : Look) → length xs ≡ length gs → FormsOf gs us → Gives sizes env (kinds_in scope) →
      Gives sizes (over (bind xs us) env) (kinds_in (scope_with xs gs ++ scope))
  results_give xs gs us scope env len h g = gives_both sizes (scope_with xs gs) scope (bind xs us) env (with_give xs gs us env h) g
      (λ x j n e. over_outside xs us env x (with_none xs gs x len n))

-- a result's form tells its kind
pub kind_is : (o : Option Form) (k : Kind) → is_of_kind (result_form o) k ≡ true → kind_of_form (result_form o) ≡ k
kind_is None kind.Integer e = refl
kind_is (Some (Number a b)) kind.Integer e = refl
kind_is (Some Truth) kind.Truth e = refl
kind_is (Some (Element j)) (kind.Elem k) e = ap kind.Elem (eqb-true j k e)
kind_is (Some (Numbers a b)) (kind.SetOf base.Integer) e = refl
kind_is (Some TruthSet) (kind.SetOf base.Truth) e = refl
kind_is (Some (Elements j)) (kind.SetOf (base.Elem k)) e = ap (λ i. kind.SetOf (base.Elem i)) (eqb-true j k e)
kind_is (Some Empty) (kind.SetOf base.Integer) e = refl
kind_is o k e = cc

-- results differ, so each has its own kind
pub result_kind : (rs ts : List (Name × Kind)) → Differ (result_names rs) → (j : ℕ) (r : Name × Kind) → IsAt rs j r → typed.kind_of_target (rs ++ ts) r.0 ≡ Some r.1
result_kind [] ts df j r e = cc
result_kind (q ∷ rs) ts df zero r e =
    let same : q ≡ r = same_Some q r e in
    subst (λ z. typed.kind_of_target (q ∷ rs ++ ts) z.0 ≡ Some z.1) same (ap (λ b. if b then Some q.1 else typed.kind_of_target (rs ++ ts) q.0) (same_name_self q.0))
result_kind (q ∷ rs) ts df (suc j) r e =
    ap (λ b. if b then Some q.1 else typed.kind_of_target (rs ++ ts) r.0) (apart (same_name r.0 q.0) refl) ∙ result_kind rs ts df.1 j r e
  where
    listed : (rs : List (Name × Kind)) (j : ℕ) → IsAt rs j r → is_among r.0 (result_names rs) ≡ true
    listed [] j e = cc
    listed (p ∷ rs) zero e =
        let same : p ≡ r = same_Some p r e in
        subst (λ z. (same_name r.0 z.0 || is_among r.0 (result_names rs)) ≡ true) (sym same) (ap (λ b. b || is_among r.0 (result_names rs)) (same_name_self r.0))
    listed (p ∷ rs) (suc j) e = also (same_name r.0 p.0) (listed rs j e)
      where
        also : (b : Bool) → is_among r.0 (result_names rs) ≡ true → (b || is_among r.0 (result_names rs)) ≡ true
        also true h = refl
        also false h = h

    apart : (b : Bool) → same_name r.0 q.0 ≡ b → b ≡ false
    apart true s = absurd (true≢false (sym (listed rs j e) ∙ ap (λ z. is_among z (result_names rs)) (same_name_tells r.0 q.0 s) ∙ df.0))
    apart false s = refl

forms_of : (sizes : List ℕ) (G : Name → Form) (l : Look) (rs : List (Name × Kind)) → ((r : Name × Kind) → Contains rs r → IsOf sizes (kind_of_form (G r.0)) (l r.0)) →
    FormsOf sizes (map G (result_names rs)) (map l (result_names rs))
forms_of sizes G l [] h = tt
forms_of sizes G l (r ∷ rs) h = (h r (0, omega arith, refl), forms_of sizes G l rs (λ q c. h q (suc c.0, omega (arith, c.1), c.2)))

names_many : (G : Name → Form) (rs : List (Name × Kind)) → length (map G (result_names rs)) ≡ length rs
names_many G [] = refl
names_many G (r ∷ rs) = omega (arith, names_many G rs)

module _ (y : System) (t : Typed y) (c : Controller) where
  abbrev n : List ℕ
  n = set_sizes y

  abbrev StoreKinds : Look → Type 0
  StoreKinds store = (k : ℕ) (m : Machine) → Contains c.machines k → IsAt y.machines k m → GivesKinds n m.variables store

  module _ (k : ℕ) (m : Machine) (e : IsAt y.machines k m) (j : ℕ) (o : Operation) (at : IsAt m.operations j o) (vs : List Value) (store : Look)
      (a : AreOfKinds n o.params vs) (g : GivesKinds n m.variables store) (d : Writes) (run : Runs n o.body (with_args o vs store) d) where
    abbrev of : TypedOperation y m o
    of = (typed_machine y t k m e).operations j o at

    inside_gives : Gives n (with_args o vs store) (kinds_in (scope_in m o))
    inside_gives = gives_both n (scope_of o.params) (scope_of m.variables) (bind (names o.params) vs) store
        (subst (Gives n (with_args o vs store)) (sym (scope_kinds n o.params)) (args_give n o.params vs store (new_differ (global_names y) (names o.params) (new_params y t k m e j o of)) a))
        (subst (Gives n store) (sym (scope_kinds n m.variables)) (gives_kinds n m.variables store g))
        (λ x l none h. args_stay n o.params vs store x (no_param y t k m e j o of x (kind_of_declared n m.variables x l (subst (λ ns. kind_in ns x ≡ Some l) (scope_kinds n m.variables) h))))

    abbrev form_at : Name → Form
    form_at x = result_form (assigned_form n x (scope_in m o) o.body)

    result_is : (r : Name × Kind) → Contains o.results r → IsOf n (kind_of_form (form_at r.0)) (look_of d r.0)
    result_is r has =
        let p = at_some o.results r has in
        let new = new_results y t k m e j o of in
        let target = result_kind o.results (targets_of m.variables) (new_differ new.0 (result_names o.results) new.1) p.0 r p.1 in
        let one : (v : Value) → found d r.0 ≡ Some v → IsOf n r.1 v = run_kinds n (o.results ++ targets_of m.variables) r.0 r.1 target o.body (scope_in m o)
        (names o.params ++ result_names o.results ++ global_names y) (with_args o vs store) d of.body inside_gives run in
        let value = by_found (found d r.0) one (run_writes n r.0 o.body (with_args o vs store) d (of.writes_results r has) run) in
        subst (IsOf n (kind_of_form (form_at r.0))) (sym (over_is d empty r.0))
        (subst (λ l. IsOf n l (or_look (found d r.0) nothing)) (sym (kind_is (assigned_form n r.0 (scope_in m o) o.body) r.1 (of.result_kinds r has))) value)
      where
        by_found : (w : Option Value) → ((v : Value) → w ≡ Some v → IsOf n r.1 v) → IsSome w → IsOf n r.1 (or_look w nothing)
        by_found None f h = cc
        by_found (Some v) f h = f v refl

    pub results_are : FormsOf n (result_forms n m o) (results_after o d)
    results_are = forms_of n form_at (look_of d) o.results result_is

    pub store_after : StoreKinds store → StoreKinds (kept m d store)
    store_after s k' m' has e' = by (k == k') (eqb-true k k') (eqb-false k k')
      where
        other : (k ≡ k' → ⊥) → (x : Name) → is_among x (names m'.variables) ≡ true → store x ≡ kept m d store x
        other ne x v = sym (only_outside (names m.variables) d store x (apart (is_among x (names m.variables)) refl))
          where
            apart : (b : Bool) → is_among x (names m.variables) ≡ b → b ≡ false
            apart true h = absurd (ne (one_machine y t k k' m m' e e' x h v))
            apart false h = refl

        by : (b : Bool) → (b ≡ true → k ≡ k') → (b ≡ false → k ≡ k' → ⊥) → GivesKinds n m'.variables (kept m d store)
        by true same ne =
            let found : slice_get y.machines k ≡ Some m' = ap (slice_get y.machines) (same refl) ∙ e' in
            let is : m ≡ m' = same_Some m m' (sym e ∙ found) in
            subst (λ (z : Machine). GivesKinds n z.variables (kept m d store)) is ((keeps_of_typed y t k m e).stays j o at store vs d g a run)
        by false same ne = kinds_agree n m'.variables store (kept m d store) (other (ne refl)) (s k' m' has e')

  module _ (i : ℕ) where
    pub kinded : (p : ProcessTree) (scope : Scope) (taken : List Name) → TypedProcess y (global_names y) i c scope taken p → (env store : Look) → Gives n env (kinds_in scope) → StoreKinds store →
        CallsKinded y c p env store
    kinded Stop scope taken w env store g s = tt
    kinded Skip scope taken w env store g s = tt
    kinded (Call k ts) scope taken w env store g s = λ d e vs a. args_kinds n scope taken env g d.params ts vs (is_at (slice_get c.definitions k) _ d w e) a
    kinded (Prefix (event.Output k ts f) p) scope taken w env store g s = kinded p scope taken w.1 env store g s
    kinded (Prefix (event.Input k xs f) p) scope taken w env store g s = λ ch e vs a.
        let q = is_at (slice_get y.channels k) _ ch w.1 e in
        kinded p (scope_at xs ch.values ++ scope) (xs ++ taken) q.3 (over (bind xs vs) env) store
        (inputs_give n xs ch.values vs scope env q.1 (new_differ taken xs w.0) a g) s
    kinded (Prefix (event.Call k j ts xs) p) scope taken w env store g s = λ m e o at vs a d run.
        let q = is_at (slice_get m.operations j) _ o (is_at (slice_get y.machines k) _ m w.2 e) at in
        let ka = args_kinds n scope taken env g o.params ts vs q.0 a in
        let kv = s k m w.0 e in
        let forms = result_forms n m o in
        kinded p (scope_with xs forms ++ scope) (xs ++ taken) q.2 (over (bind xs (results_after o d)) env) (kept m d store)
        (results_give n xs forms (results_after o d) scope env (q.1 ∙ sym (names_many (λ x. result_form (assigned_form n x (scope_in m o) o.body)) o.results)) (results_are k m e j o at vs store ka kv d run) g)
        (store_after k m e j o at vs store ka kv d run s)
    kinded (Choice p q) scope taken w env store g s = (kinded p scope taken w.0 env store g s, kinded q scope taken w.1 env store g s)
    kinded (Internal p q) scope taken w env store g s = (kinded p scope taken w.0 env store g s, kinded q scope taken w.1 env store g s)
    kinded (If f p q) scope taken w env store g s = (kinded p scope taken w.1 env store g s, kinded q scope taken w.2 env store g s)

pub typed_controllers_kinded : TypedControllersKinded
typed_controllers_kinded y t i c num =
    let tc = t.controllers i c num in
    let n' = set_sizes y in record {
      start = λ store d e vs a. args_kinds n' [] (global_names y) empty (λ x k h. cc) d.params c.start_args vs (is_at (slice_get c.definitions c.start) _ d tc.start e) a;
      loop = λ j d e store vs v s.
          let td = tc.definitions j d e in
          let g = args_give n' d.params vs empty (new_differ (global_names y) (names d.params) td.new_names) (in_kinds n' d.params vs v) in
          kinded y t c i d.body (scope_of d.params) (names d.params ++ global_names y) td.body (bound_look (names d.params) vs) store
          (subst (Gives n' (bound_look (names d.params) vs)) (sym (scope_kinds n' d.params)) g) s;
    }
