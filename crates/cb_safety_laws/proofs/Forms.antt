-- The values in a run are of the forms for which the text was typed.
use Rattle.std.proofs.Common.{◌≡◌, ◌==◌, ◌≤◌, ℕ, zero, suc, ℤ, int_lt, Bool, true, false, ◌||◌, List, [], ◌∷◌, ◌++◌, map, length, Contains, Option, Some, None, IsSome, ◌⊎◌, inl, inr, refl, sym, ap, ◌∙◌, subst, true≢false, if◌then◌else◌, arith}
use Rattle.std.specs.Int.{int_min, int_max}
use Rattle.std.proofs.lemmas.Bool.{eqb-true, eq-eqb, false_from_ne_true}
use Rattle.std.proofs.lemmas.Int.{ints, clamps}
use Rattle.std.proofs.lemmas.List.{append-nil}
use Rattle.std.proofs.lemmas.Option.{same_Some}
use Rattle.cb_term.specs.declared.name.Name.{Name}
use Rattle.cb_term.specs.declared.kind.Kind.{Kind}
use Rattle.cb_term.specs.declared.kind.Kind.TheVariants as kind
use Rattle.cb_term.specs.declared.kind.Base.{Base}
use Rattle.cb_term.specs.declared.kind.Base.TheVariants as base
use Rattle.cb_term.specs.declared.kind.Domain.{Domain}
use Rattle.cb_term.specs.declared.kind.Domain.TheVariants as domain
use Rattle.cb_term.specs.declared.table.SetNames.{SetNames}
use Rattle.cb_term.specs.declared.value.Value.{Value}
use Rattle.cb_term.specs.declared.value.Value.TheVariants as value
use Rattle.cb_term.specs.Names.{same_name}
use Rattle.cb_term.specs.Tree.{TermTree, Var, FormulaTree, And}
use Rattle.cb_term.specs.Values.{Look, nothing, set_at, IsOf, AreItems, size_of_set}
use Rattle.cb_term.specs.Holds.{Holds}
use Rattle.cb_term.proofs.FreeLemmas.{or_left, or_right}
use Rattle.cb_term.proofs.ValueLemmas.{same_name_tells, same_name_self}
use Rattle.cb_spec.specs.declared.system.Declared.{Declared}
use Rattle.cb_spec.specs.declared.system.Machine.{Machine}
use Rattle.cb_spec.specs.declared.system.Operation.{Operation}
use Rattle.cb_spec.specs.declared.system.System.{System}
use Rattle.cb_spec.specs.SubstTree.{SubstTree, Skip, Assign, Together, Choice, If, AnyOf, SubstTrees, End, More}
use Rattle.cb_spec.specs.Domains.{kind_of_domain, Within, AllWithin, In, typing}
use Rattle.cb_spec.specs.Stores.{Writes, found, over, empty, look_of}
use Rattle.cb_spec.specs.Bound.{names, result_names, is_among, bind, bound_look, AreOfKinds, AreIn, GivesKinds}
use Rattle.cb_spec.specs.Runs.{Runs, RunsOne, HasConjunct}
use Rattle.cb_spec.specs.Machines.{with_args}
use Rattle.cb_spec.specs.Forms.{Form, Number, Truth, Element, Numbers, TruthSet, Elements, Empty, form_of_domain, is_of_kind, hull}
use Rattle.cb_spec.specs.FormValues.{IsOfForm}
use Rattle.cb_spec.specs.States.{IsAt}
use Rattle.cb_spec.specs.Settling.{AreValues}
use Rattle.cb_spec.specs.Journals.{set_sizes, results_after}
use Rattle.cb_spec.specs.TypedTerms.{Scope, form_in, form_of}
use Rattle.cb_spec.specs.TypedSubsts.{TypedSubst, TypedSides, either_form, either, assigned_form, assigned_in_one, result_form, always_writes}
use Rattle.cb_spec.specs.TypedSubsts as typed
use Rattle.cb_spec.specs.TypedProcesses.{scope_of, scope_at, scope_in, scope_with, kinds_of, result_forms, TypedArgs}
use Rattle.cb_spec.specs.Typed.{global_names, GivesDomains, targets_of, TypedOperation, Typed}
use Rattle.cb_spec.specs.Sound.{Agrees}
use Rattle.cb_spec.proofs.DomainLemmas.{domain_typing}
use Rattle.cb_spec.proofs.StoreLemmas.{over_is, or_look}
use Rattle.cb_obligations.specs.Sufficing.{Differ}
use Rattle.cb_obligations.proofs.Calls.{neither}
use Rattle.cb_obligations.proofs.Stores.{set_here, set_other}
use Rattle.cb_eval.specs.TypedIn.{AreSmallSets}
use Rattle.cb_eval.proofs.TypedLemmas.{typed_value}
use Rattle.cb_typed.specs.Erasure.{kind_of_form}
use Rattle.cb_typed.proofs.Erasing.{some_and}
use Rattle.cb_typed.proofs.Naming.{new_differ, new_front, run_writes}

module _ (sizes : List ℕ) where
  -- ---- domains, forms and kinds

  of_domain : (d : Domain) (v : Value) → In sizes d v → IsOfForm sizes (form_of_domain d) v
  of_domain (domain.Range lo hi) (value.Int x) i = i
  of_domain domain.Truth (value.Truth b) i = tt
  of_domain (domain.Elems set) (value.Elem k) i = i
  of_domain (domain.Subsets lo hi) (value.Set xs) i = i
  of_domain (domain.ElemSubsets set) (value.Set xs) i = i
  of_domain d v i = absurd i

  integers : (xs : List ℤ) → AreItems sizes base.Integer xs
  integers [] = tt
  integers (x ∷ xs) = (tt, integers xs)

  own_kind : (f : Form) (v : Value) → IsOfForm sizes f v → IsOf sizes (kind_of_form f) v
  own_kind (Number lo hi) (value.Int x) i = tt
  own_kind Truth (value.Truth b) i = tt
  own_kind (Element set) (value.Elem k) i = i
  own_kind (Numbers lo hi) (value.Set xs) i = (i.0, integers xs)
  own_kind TruthSet (value.Set xs) i = i
  own_kind (Elements set) (value.Set xs) i = i
  own_kind Empty (value.Set []) i = tt
  own_kind f v i = absurd i

  wider_kind : (f : Form) (k : Kind) (v : Value) → is_of_kind f k ≡ true → IsOf sizes (kind_of_form f) v → IsOf sizes k v
  wider_kind (Number lo hi) kind.Integer v e i = i
  wider_kind Truth kind.Truth v e i = i
  wider_kind (Element j) (kind.Elem k) v e i = subst (λ n. IsOf sizes (kind.Elem n) v) (eqb-true j k e) i
  wider_kind (Numbers lo hi) (kind.SetOf base.Integer) v e i = i
  wider_kind TruthSet (kind.SetOf base.Truth) v e i = i
  wider_kind (Elements j) (kind.SetOf (base.Elem k)) v e i = subst (λ n. IsOf sizes (kind.SetOf (base.Elem n)) v) (eqb-true j k e) i
  wider_kind Empty (kind.SetOf b) (value.Set []) e i = (tt, tt)
  wider_kind Empty (kind.SetOf b) (value.Set (x ∷ xs)) e i = absurd i
  wider_kind Empty (kind.SetOf b) (value.Int x) e i = absurd i
  wider_kind Empty (kind.SetOf b) (value.Truth x) e i = absurd i
  wider_kind Empty (kind.SetOf b) (value.Elem x) e i = absurd i
  wider_kind Empty kind.EmptySet v e i = i
  wider_kind f k v e i = cc

  -- ---- what names stand for

  abbrev pub AreOfForms : List Form → List Value → Type 0
  AreOfForms [] [] = Unit {0}
  AreOfForms [] (v ∷ vs) = ⊥
  AreOfForms (f ∷ fs) [] = ⊥
  AreOfForms (f ∷ fs) (v ∷ vs) = IsOfForm sizes f v × AreOfForms fs vs

  abbrev pub forms : List Declared → List Form
  forms ds = map (λ (d : Declared). form_of_domain d.domain) ds

  pub in_forms : (ds : List Declared) (vs : List Value) → AreIn sizes ds vs → AreOfForms (forms ds) vs
  in_forms [] [] i = tt
  in_forms [] (v ∷ vs) i = absurd i
  in_forms (d ∷ ds) [] i = absurd i
  in_forms (d ∷ ds) (v ∷ vs) i = (of_domain d.domain v i.0, in_forms ds vs i.1)

  pub agrees_set : (scope : Scope) (look : Look) (x : Name) (f : Form) (v : Value) → Agrees sizes scope look → IsOfForm sizes f v → Agrees sizes ((x, f) ∷ scope) (set_at look x v)
  agrees_set scope look x f v a i z g e = by (same_name z x) e
    where
      by : (b : Bool) → (if b then Some f else form_in scope z) ≡ Some g → IsOfForm sizes g (if b then v else look z)
      by true e = subst (λ h. IsOfForm sizes h v) (same_Some f g e) i
      by false e = a z g e

  pub agrees_with : (xs : List Name) (fs : List Form) (vs : List Value) (scope : Scope) (look : Look) → length xs ≡ length fs → AreOfForms fs vs → Agrees sizes scope look →
      Agrees sizes (scope_with xs fs ++ scope) (over (bind xs vs) look)
  agrees_with [] fs vs scope look n i a = a
  agrees_with (x ∷ xs) [] vs scope look n i a = absurd (omega (arith, n))
  agrees_with (x ∷ xs) (f ∷ fs) [] scope look n i a = absurd i
  agrees_with (x ∷ xs) (f ∷ fs) (v ∷ vs) scope look n i a =
      agrees_set (scope_with xs fs ++ scope) (over (bind xs vs) look) x f v (agrees_with xs fs vs scope look (omega (arith, n)) i.1 a) i.0

  at_is_with : (xs : List Name) (ds : List Declared) → scope_at xs ds ≡ scope_with xs (forms ds)
  at_is_with [] ds = refl
  at_is_with (x ∷ xs) [] = refl
  at_is_with (x ∷ xs) (d ∷ ds) = ap (λ s. (x, form_of_domain d.domain) ∷ s) (at_is_with xs ds)

  of_is_with : (ds : List Declared) → scope_of ds ≡ scope_with (names ds) (forms ds)
  of_is_with [] = refl
  of_is_with (d ∷ ds) = ap (λ s. (d.name, form_of_domain d.domain) ∷ s) (of_is_with ds)

  forms_length : (ds : List Declared) → length (forms ds) ≡ length ds
  forms_length [] = refl
  forms_length (d ∷ ds) = ap suc (forms_length ds)

  names_length : (ds : List Declared) → length (names ds) ≡ length ds
  names_length [] = refl
  names_length (d ∷ ds) = ap suc (names_length ds)

  -- an input's names have the values that came
  pub agrees_input : (xs : List Name) (ds : List Declared) (vs : List Value) (scope : Scope) (look : Look) → length xs ≡ length ds → AreIn sizes ds vs → Agrees sizes scope look →
      Agrees sizes (scope_at xs ds ++ scope) (over (bind xs vs) look)
  agrees_input xs ds vs scope look n i a = subst (λ s. Agrees sizes (s ++ scope) (over (bind xs vs) look)) (sym (at_is_with xs ds))
      (agrees_with xs (forms ds) vs scope look (n ∙ sym (forms_length ds)) (in_forms ds vs i) a)

  -- parameters have the values of their arguments
  pub agrees_params : (ds : List Declared) (vs : List Value) (scope : Scope) (look : Look) → AreIn sizes ds vs → Agrees sizes scope look → Agrees sizes (scope_of ds ++ scope) (over (bind (names ds) vs) look)
  agrees_params ds vs scope look i a = subst (λ s. Agrees sizes (s ++ scope) (over (bind (names ds) vs) look)) (sym (of_is_with ds))
      (agrees_with (names ds) (forms ds) vs scope look (names_length ds ∙ sym (forms_length ds)) (in_forms ds vs i) a)

  pub agrees_bound : (ds : List Declared) (vs : List Value) → AreIn sizes ds vs → Agrees sizes (scope_of ds) (bound_look (names ds) vs)
  agrees_bound ds vs i = subst (λ s. Agrees sizes s (bound_look (names ds) vs)) (append-nil (scope_of ds)) (agrees_params ds vs [] empty i (λ x f e. cc))

  -- ---- what typing conjuncts say

  conjunct : (g f : FormulaTree) (look : Look) → HasConjunct g f → Holds sizes look f [] → Holds sizes look g []
  conjunct g (And a b) look h t = elim h [
    | inl p ↦ conjunct g a look p t.0
    | inr p ↦ conjunct g b look p t.1
  ]
  conjunct g f look h t = subst (λ z. Holds sizes look z []) h t

  -- variables whose kinds and typing conjuncts hold
  pub agrees_declared : (ds : List Declared) (f : FormulaTree) (look : Look) → GivesDomains sizes ds f → GivesKinds sizes ds look → Holds sizes look f [] → Agrees sizes (scope_of ds) look
  agrees_declared [] f look g k h x form e = cc
  agrees_declared (d ∷ ds) f look g k h x form e = by (same_name x d.name) refl e (agrees_declared ds f look g.2 k.1 h x form)
    where
      by : (b : Bool) → same_name x d.name ≡ b → (if b then Some (form_of_domain d.domain) else form_in (scope_of ds) x) ≡ Some form →
          (form_in (scope_of ds) x ≡ Some form → IsOfForm sizes form (look x)) → IsOfForm sizes form (look x)
      by true s e r =
          let within = (domain_typing sizes d.domain look d.name).1 (k.0, conjunct (typing (Var d.name) d.domain) f look g.1 h) in
          subst (λ z. IsOfForm sizes form (look z)) (sym (same_name_tells x d.name s))
          (subst (λ w. IsOfForm sizes w (look d.name)) (same_Some (form_of_domain d.domain) form e) (of_domain d.domain (look d.name) within))
      by false s e r = r e

  -- the declared names have these values
  abbrev AreAt : Look → List Declared → List Value → Type 0
  AreAt look [] vs = Unit {0}
  AreAt look (d ∷ ds) [] = ⊥
  AreAt look (d ∷ ds) (v ∷ vs) = (look d.name ≡ v) × AreAt look ds vs

  at_other : (look : Look) (x : Name) (v : Value) (ds : List Declared) (vs : List Value) → is_among x (names ds) ≡ false → AreAt look ds vs → AreAt (set_at look x v) ds vs
  at_other look x v [] vs n a = tt
  at_other look x v (d ∷ ds) [] n a = absurd a
  at_other look x v (d ∷ ds) (w ∷ vs) n a =
      let p = neither (same_name x d.name) (is_among x (names ds)) n in
      let turned : same_name d.name x ≡ false = false_from_ne_true (same_name d.name x) (λ t.
      true≢false (sym (same_name_self x) ∙ ap (same_name x) (sym (same_name_tells d.name x t)) ∙ p.0)) in
      (set_other look x v d.name turned ∙ a.0, at_other look x v ds vs p.1 a.1)

  args_at : (ds : List Declared) (vs : List Value) (look : Look) → Differ (names ds) → AreOfKinds sizes ds vs → AreAt (over (bind (names ds) vs) look) ds vs
  args_at [] vs look n k = tt
  args_at (d ∷ ds) [] look n k = absurd k
  args_at (d ∷ ds) (v ∷ vs) look n k =
      let rest = over (bind (names ds) vs) look in
      (set_here rest d.name v, at_other rest d.name v ds vs n.0 (args_at ds vs look n.1 k.1))

  each_in : (ds : List Declared) (vs : List Value) (f : FormulaTree) (look : Look) → AreAt look ds vs → AreOfKinds sizes ds vs → GivesDomains sizes ds f → Holds sizes look f [] → AreIn sizes ds vs
  each_in [] [] f look a k g h = tt
  each_in [] (v ∷ vs) f look a k g h = absurd k
  each_in (d ∷ ds) [] f look a k g h = absurd k
  each_in (d ∷ ds) (v ∷ vs) f look a k g h = (
    subst (In sizes d.domain) a.0 ((domain_typing sizes d.domain look d.name).1
        (subst (IsOf sizes (kind_of_domain d.domain)) (sym a.0) k.0, conjunct (typing (Var d.name) d.domain) f look g.1 h)),
    each_in ds vs f look a.1 k.1 g.2 h,
  )

  -- where a formula has the typing conjuncts of its parameters and holds, their values are in the domains
  pub args_in : (ds : List Declared) (vs : List Value) (f : FormulaTree) (look : Look) → Differ (names ds) → AreOfKinds sizes ds vs → GivesDomains sizes ds f →
      Holds sizes (over (bind (names ds) vs) look) f [] → AreIn sizes ds vs
  args_in ds vs f look n k g h = each_in ds vs f (over (bind (names ds) vs) look) (args_at ds vs look n k) k g h

  -- ---- values of terms

  pub args_of_kinds : (scope : Scope) (taken : List Name) (env : Look) → AreSmallSets sizes → Agrees sizes scope env → (ds : List Declared) (ts : List TermTree) (vs : List Value) →
      TypedArgs sizes scope taken (kinds_of ds) ts → AreValues sizes env ts vs → AreOfKinds sizes ds vs
  args_of_kinds scope taken env small a [] [] [] w are = tt
  args_of_kinds scope taken env small a [] [] (v ∷ vs) w are = absurd are
  args_of_kinds scope taken env small a [] (t ∷ ts) vs w are = absurd w
  args_of_kinds scope taken env small a (d ∷ ds) [] vs w are = absurd w
  args_of_kinds scope taken env small a (d ∷ ds) (t ∷ ts) [] w are = absurd are
  args_of_kinds scope taken env small a (d ∷ ds) (t ∷ ts) (v ∷ vs) w are =
      let p = some_and (form_of sizes scope [] t) _ w.0.1 in
      let is : IsOfForm sizes p.0 v = (typed_value sizes scope taken env t p.0 v small a w.0.0 p.1 are.0).0 in
      (wider_kind p.0 (kind_of_domain d.domain) v p.2 (own_kind p.0 v is), args_of_kinds scope taken env small a ds ts vs w.1 are.1)

  -- ---- what may be one or the other

  abbrev OneOf : Form → Form → Form → Type 0
  OneOf a b f = ((v : Value) → IsOfForm sizes a v → IsOfForm sizes f v) × ((v : Value) → IsOfForm sizes b v → IsOfForm sizes f v)

  abbrev Both : Kind → Form → Form → Form → Type 0
  Both k a b f = (is_of_kind f k ≡ true) × OneOf a b f

  more_numbers : (a b c d : ℤ) → ((x : ℤ) → Within a b x → Within c d x) → (v : Value) → IsOfForm sizes (Number a b) v → IsOfForm sizes (Number c d) v
  more_numbers a b c d h (value.Int x) i = h x i
  more_numbers a b c d h v i = absurd i

  all_within : (a b c d : ℤ) → ((x : ℤ) → Within a b x → Within c d x) → (xs : List ℤ) → AllWithin a b xs → AllWithin c d xs
  all_within a b c d h [] w = tt
  all_within a b c d h (x ∷ xs) w = (h x w.0, all_within a b c d h xs w.1)

  more_sets : (a b c d : ℤ) → ((x : ℤ) → Within a b x → Within c d x) → (v : Value) → IsOfForm sizes (Numbers a b) v → IsOfForm sizes (Numbers c d) v
  more_sets a b c d h (value.Set xs) i = (i.0, all_within a b c d h xs i.1)
  more_sets a b c d h v i = absurd i

  low : (a b c d x : ℤ) → Within a b x → Within (int_min a c) (int_max b d) x
  low a b c d x w = (omega (arith, ints, clamps, w.0), omega (arith, ints, clamps, w.1))

  high : (a b c d x : ℤ) → Within c d x → Within (int_min a c) (int_max b d) x
  high a b c d x w = (omega (arith, ints, clamps, w.0), omega (arith, ints, clamps, w.1))

  both_hull : (lo hi lo' hi' : ℤ) → Both (kind.SetOf base.Integer) (Numbers lo hi) (Numbers lo' hi') (hull lo hi lo' hi')
  both_hull lo hi lo' hi' = by (int_lt hi lo) refl (int_lt hi' lo') refl
    where
      by : (b : Bool) → int_lt hi lo ≡ b → (c : Bool) → int_lt hi' lo' ≡ c → Both (kind.SetOf base.Integer) (Numbers lo hi) (Numbers lo' hi')
          (if b then Numbers lo' hi' else (if c then Numbers lo hi else Numbers (int_min lo lo') (int_max hi hi')))
      by true e c f = (refl, (more_sets lo hi lo' hi' (λ x w. absurd (omega (arith, ints, e, w.0, w.1))), (λ v i. i)))
      by false e true f = (refl, ((λ v i. i), more_sets lo' hi' lo hi (λ x w. absurd (omega (arith, ints, f, w.0, w.1)))))
      by false e false f = (refl, (more_sets lo hi _ _ (λ x w. low lo hi lo' hi' x w), more_sets lo' hi' _ _ (λ x w. high lo hi lo' hi' x w)))

  empty_in : (f : Form) (b : Base) → is_of_kind f (kind.SetOf b) ≡ true → (v : Value) → IsOfForm sizes Empty v → IsOfForm sizes f v
  empty_in (Numbers lo hi) base.Integer e (value.Set []) i = (tt, tt)
  empty_in TruthSet base.Truth e (value.Set []) i = (tt, tt)
  empty_in (Elements j) (base.Elem k) e (value.Set []) i = (tt, tt)
  empty_in Empty b e v i = i
  empty_in f b e (value.Set (x ∷ xs)) i = absurd i
  empty_in f b e (value.Int x) i = absurd i
  empty_in f b e (value.Truth x) i = absurd i
  empty_in f b e (value.Elem x) i = absurd i
  empty_in f b e v i = cc

  either_same : (j : ℕ) → either_form (Elements j) (Elements j) ≡ Elements j
  either_same j = rw (eq-eqb j j refl) refl

  same_elements : (j k n : ℕ) → (j == n) ≡ true → (k == n) ≡ true → k ≡ j
  same_elements j k n e h = eqb-true k n h ∙ sym (eqb-true j n e)

  number_both : (lo hi : ℤ) (b : Form) → is_of_kind b kind.Integer ≡ true → Both kind.Integer (Number lo hi) b (either_form (Number lo hi) b)
  number_both lo hi (Number c d) h = (refl, (more_numbers lo hi _ _ (λ x w. low lo hi c d x w), more_numbers c d _ _ (λ x w. high lo hi c d x w)))
  number_both lo hi b h = cc

  truth_both : (b : Form) → is_of_kind b kind.Truth ≡ true → Both kind.Truth Truth b (either_form Truth b)
  truth_both Truth h = (refl, ((λ v i. i), (λ v i. i)))
  truth_both b h = cc

  element_both : (n j : ℕ) (b : Form) → (j == n) ≡ true → is_of_kind b (kind.Elem n) ≡ true → Both (kind.Elem n) (Element j) b (either_form (Element j) b)
  element_both n j (Element k) e h = (e, ((λ v i. i), (λ v i. subst (λ m. IsOfForm sizes (Element m) v) (same_elements j k n e h) i)))
  element_both n j b e h = cc

  numbers_both : (lo hi : ℤ) (b : Form) → is_of_kind b (kind.SetOf base.Integer) ≡ true → Both (kind.SetOf base.Integer) (Numbers lo hi) b (either_form (Numbers lo hi) b)
  numbers_both lo hi (Numbers lo' hi') h = both_hull lo hi lo' hi'
  numbers_both lo hi Empty h = (refl, ((λ v i. i), empty_in (Numbers lo hi) base.Integer refl))
  numbers_both lo hi b h = cc

  truths_both : (b : Form) → is_of_kind b (kind.SetOf base.Truth) ≡ true → Both (kind.SetOf base.Truth) TruthSet b (either_form TruthSet b)
  truths_both TruthSet h = (refl, ((λ v i. i), (λ v i. i)))
  truths_both Empty h = (refl, ((λ v i. i), empty_in TruthSet base.Truth refl))
  truths_both b h = cc

  elements_both : (n j : ℕ) (b : Form) → (j == n) ≡ true → is_of_kind b (kind.SetOf (base.Elem n)) ≡ true → Both (kind.SetOf (base.Elem n)) (Elements j) b (either_form (Elements j) b)
  elements_both n j (Elements k) e h =
      subst (λ m. Both (kind.SetOf (base.Elem n)) (Elements j) (Elements m) (either_form (Elements j) (Elements m))) (sym (same_elements j k n e h))
      (subst (λ f. Both (kind.SetOf (base.Elem n)) (Elements j) (Elements j) f) (sym (either_same j)) (e, ((λ v i. i), (λ v i. i))))
  elements_both n j Empty e h = (e, ((λ v i. i), empty_in (Elements j) (base.Elem n) e))
  elements_both n j b e h = cc

  empty_both : (c : Base) (b : Form) → is_of_kind b (kind.SetOf c) ≡ true → Both (kind.SetOf c) Empty b (either_form Empty b)
  empty_both base.Integer (Numbers lo hi) h = (refl, (empty_in (Numbers lo hi) base.Integer refl, (λ v i. i)))
  empty_both base.Truth TruthSet h = (refl, (empty_in TruthSet base.Truth refl, (λ v i. i)))
  empty_both (base.Elem n) (Elements j) h = (h, (empty_in (Elements j) (base.Elem n) h, (λ v i. i)))
  empty_both c Empty h = (refl, ((λ v i. i), (λ v i. i)))
  empty_both c b h = cc

  empties_both : (b : Form) → is_of_kind b kind.EmptySet ≡ true → Both kind.EmptySet Empty b (either_form Empty b)
  empties_both Empty h = (refl, ((λ v i. i), (λ v i. i)))
  empties_both b h = cc

  -- the form of one or the other has the values of both, where both may stand for one kind
  either_both : (k : Kind) (a b : Form) → is_of_kind a k ≡ true → is_of_kind b k ≡ true → Both k a b (either_form a b)
  either_both kind.Integer (Number lo hi) b e h = number_both lo hi b h
  either_both kind.Truth Truth b e h = truth_both b h
  either_both (kind.Elem n) (Element j) b e h = element_both n j b e h
  either_both (kind.SetOf base.Integer) (Numbers lo hi) b e h = numbers_both lo hi b h
  either_both (kind.SetOf base.Truth) TruthSet b e h = truths_both b h
  either_both (kind.SetOf (base.Elem n)) (Elements j) b e h = elements_both n j b e h
  either_both (kind.SetOf c) Empty b e h = empty_both c b h
  either_both kind.EmptySet Empty b e h = empties_both b h
  either_both k a b e h = cc

  -- ---- what a run writes to a name

  found_one : (d e : Writes) (x : Name) (v : Value) → found (d ++ e) x ≡ Some v → (found d x ≡ Some v) ⊎ (found e x ≡ Some v)
  found_one [] e x v h = inr h
  found_one (p ∷ d) e x v h = by (same_name x p.0) h (found_one d e x v)
    where
      by : (b : Bool) → (if b then Some p.1 else found (d ++ e) x) ≡ Some v → (found (d ++ e) x ≡ Some v → (found d x ≡ Some v) ⊎ (found e x ≡ Some v)) →
          ((if b then Some p.1 else found d x) ≡ Some v) ⊎ (found e x ≡ Some v)
      by true h r = inl h
      by false h r = r h

  module _ (small : AreSmallSets sizes) (targets : List (Name × Kind)) (x : Name) (k : Kind) (target : typed.kind_of_target targets x ≡ Some k) where
    abbrev OfKind : Option Form → Type 0
    OfKind o = (f : Form) → o ≡ Some f → is_of_kind f k ≡ true

    -- there is a form, and the value is of it
    abbrev Gives : Option Form → Value → Type 0
    Gives o v = (f : Form) × (o ≡ Some f) × IsOfForm sizes f v

    either_kind : (o p : Option Form) → OfKind o → OfKind p → OfKind (either o p)
    either_kind None p q r = r
    either_kind (Some a) None q r = q
    either_kind (Some a) (Some b) q r = λ f e. subst (λ z. is_of_kind z k ≡ true) (same_Some (either_form a b) f e) (either_both k a b (q a refl) (r b refl)).0

    either_left : (o p : Option Form) → OfKind o → OfKind p → (v : Value) → Gives o v → Gives (either o p) v
    either_left None p q r v g = let e : None ≡ Some g.0 = g.1 in cc
    either_left (Some a) None q r v g = g
    either_left (Some a) (Some b) q r v g =
        (either_form a b, refl, (either_both k a b (q a refl) (r b refl)).1.0 v (subst (λ z. IsOfForm sizes z v) (sym (same_Some a g.0 g.1)) g.2))

    either_right : (o p : Option Form) → OfKind o → OfKind p → (v : Value) → Gives p v → Gives (either o p) v
    either_right None p q r v g = g
    either_right (Some a) None q r v g = let e : None ≡ Some g.0 = g.1 in cc
    either_right (Some a) (Some b) q r v g =
        (either_form a b, refl, (either_both k a b (q a refl) (r b refl)).1.1 v (subst (λ z. IsOfForm sizes z v) (sym (same_Some b g.0 g.1)) g.2))

    mutual
      assigned_kind : (s : SubstTree) (scope : Scope) (taken : List Name) → TypedSubst sizes targets scope taken s → OfKind (assigned_form sizes x scope s)
      assigned_kind Skip scope taken w = λ f e. cc
      assigned_kind (Assign y t) scope taken w = by (same_name x y) refl
        where
          by : (b : Bool) → same_name x y ≡ b → OfKind (if b then form_of sizes scope [] t else None)
          by true s = λ f e.
              let p = some_and (typed.kind_of_target targets y) _ w in
              let q = some_and (form_of sizes scope [] t) _ p.2.1 in
              let same : q.0 ≡ f = same_Some q.0 f (sym q.1 ∙ e) in
              let l : p.0 ≡ k = same_Some p.0 k (sym p.1 ∙ ap (typed.kind_of_target targets) (sym (same_name_tells x y s)) ∙ target) in
              subst (λ z. is_of_kind z k ≡ true) same (subst (λ z. is_of_kind q.0 z ≡ true) l q.2)
          by false s = λ f e. cc
      assigned_kind (Together a b) scope taken w =
          either_kind (assigned_form sizes x scope a) (assigned_form sizes x scope b) (assigned_kind a scope taken w.0) (assigned_kind b scope taken w.1)
      assigned_kind (Choice ss) scope taken w = one_kind ss scope taken w
      assigned_kind (If p a b) scope taken w =
          either_kind (assigned_form sizes x scope a) (assigned_form sizes x scope b) (assigned_kind a scope taken w.1) (assigned_kind b scope taken w.2)
      assigned_kind (AnyOf z d p s) scope taken w = assigned_kind s ((z, form_of_domain d) ∷ scope) (z ∷ taken) w.4

      one_kind : (ss : SubstTrees) (scope : Scope) (taken : List Name) → TypedSides sizes targets scope taken ss → OfKind (assigned_in_one sizes x scope ss)
      one_kind End scope taken w = λ f e. cc
      one_kind (More s ss) scope taken w =
          either_kind (assigned_form sizes x scope s) (assigned_in_one sizes x scope ss) (assigned_kind s scope taken w.0) (one_kind ss scope taken w.1)

    mutual
      -- what a run writes to the name is of the form of what is assigned to it
      run_forms : (s : SubstTree) (scope : Scope) (taken : List Name) (look : Look) (d : Writes) → TypedSubst sizes targets scope taken s → Agrees sizes scope look →
          Runs sizes s look d → (v : Value) → found d x ≡ Some v → Gives (assigned_form sizes x scope s) v
      run_forms Skip scope taken look d w g r v h = let e : found [] x ≡ Some v = subst (λ z. found z x ≡ Some v) r h in cc
      run_forms (Assign y t) scope taken look d w g r v h = by (same_name x y) (subst (λ z. found z x ≡ Some v) r.1.1 h)
        where
          by : (b : Bool) → (if b then Some r.0 else None) ≡ Some v → Gives (if b then form_of sizes scope [] t else None) v
          by true h =
              let p = some_and (typed.kind_of_target targets y) _ w in
              let q = some_and (form_of sizes scope [] t) _ p.2.1 in
              (q.0, q.1, subst (IsOfForm sizes q.0) (same_Some r.0 v h) (typed_value sizes scope taken look t q.0 r.0 small g p.2.0 q.1 r.1.0).0)
          by false h = cc
      run_forms (Together a b) scope taken look d w g r v h =
          let ka = assigned_kind a scope taken w.0 in
          let kb = assigned_kind b scope taken w.1 in
          elim (found_one r.0 r.1.0 x v (subst (λ z. found z x ≡ Some v) r.1.1.3 h)) [
            | inl f ↦ either_left (assigned_form sizes x scope a) (assigned_form sizes x scope b) ka kb v (run_forms a scope taken look r.0 w.0 g r.1.1.0 v f)
            | inr f ↦ either_right (assigned_form sizes x scope a) (assigned_form sizes x scope b) ka kb v (run_forms b scope taken look r.1.0 w.1 g r.1.1.1 v f)
          ]
      run_forms (Choice ss) scope taken look d w g r v h = one_forms ss scope taken look d w g r v h
      run_forms (If p a b) scope taken look d w g r v h =
          let ka = assigned_kind a scope taken w.1 in
          let kb = assigned_kind b scope taken w.2 in
          elim r [
            | inl t ↦ either_left (assigned_form sizes x scope a) (assigned_form sizes x scope b) ka kb v (run_forms a scope taken look d w.1 g t.1 v h)
            | inr t ↦ either_right (assigned_form sizes x scope a) (assigned_form sizes x scope b) ka kb v (run_forms b scope taken look d w.2 g t.1 v h)
          ]
      run_forms (AnyOf z dom p s) scope taken look d w g r v h =
          run_forms s ((z, form_of_domain dom) ∷ scope) (z ∷ taken) (set_at look z r.0) d w.4 (agrees_set scope look z (form_of_domain dom) r.0 g (of_domain dom r.0 r.1.0)) r.1.2 v h

      one_forms : (ss : SubstTrees) (scope : Scope) (taken : List Name) (look : Look) (d : Writes) → TypedSides sizes targets scope taken ss → Agrees sizes scope look →
          RunsOne sizes ss look d → (v : Value) → found d x ≡ Some v → Gives (assigned_in_one sizes x scope ss) v
      one_forms End scope taken look d w g r v h = absurd r
      one_forms (More s ss) scope taken look d w g r v h =
          let ka = assigned_kind s scope taken w.0 in
          let kb = one_kind ss scope taken w.1 in
          elim r [
            | inl t ↦ either_left (assigned_form sizes x scope s) (assigned_in_one sizes x scope ss) ka kb v (run_forms s scope taken look d w.0 g t v h)
            | inr t ↦ either_right (assigned_form sizes x scope s) (assigned_in_one sizes x scope ss) ka kb v (one_forms ss scope taken look d w.1 g t v h)
          ]

  result_of : (f : Form) (v : Value) → IsOfForm sizes f v → IsOfForm sizes (result_form (Some f)) v
  result_of Empty (value.Set []) i = (tt, tt)
  result_of Empty (value.Set (x ∷ xs)) i = absurd i
  result_of Empty (value.Int x) i = absurd i
  result_of Empty (value.Truth x) i = absurd i
  result_of Empty (value.Elem x) i = absurd i
  result_of f v i = i

  -- results are among what may be assigned to
  result_known : (rs ts : List (Name × Kind)) (x : Name) → is_among x (result_names rs) ≡ true → (k : Kind) × (typed.kind_of_target (rs ++ ts) x ≡ Some k)
  result_known [] ts x e = cc
  result_known (r ∷ rs) ts x e = by (same_name x r.0) e (result_known rs ts x)
    where
      by : (b : Bool) → (b || is_among x (result_names rs)) ≡ true → (is_among x (result_names rs) ≡ true → (k : Kind) × (typed.kind_of_target (rs ++ ts) x ≡ Some k)) →
          (k : Kind) × ((if b then Some r.1 else typed.kind_of_target (rs ++ ts) x) ≡ Some k)
      by true e q = (r.1, refl)
      by false e q = q e

  -- each result has a value of its form
  results_fit : AreSmallSets sizes → (targets : List (Name × Kind)) (scope : Scope) (taken : List Name) (s : SubstTree) (look : Look) (d : Writes) → TypedSubst sizes targets scope taken s →
      Agrees sizes scope look → Runs sizes s look d → (rs : List (Name × Kind)) → ((r : Name × Kind) → Contains rs r → always_writes r.0 s ≡ true) →
      ((x : Name) → is_among x (result_names rs) ≡ true → (k : Kind) × (typed.kind_of_target targets x ≡ Some k)) →
      AreOfForms (map (λ x. result_form (assigned_form sizes x scope s)) (result_names rs)) (map (look_of d) (result_names rs))
  results_fit small targets scope taken s look d w g run [] always known = tt
  results_fit small targets scope taken s look d w g run (r ∷ rs) always known = (
    by (found d r.0) refl (run_writes sizes r.0 s look d (always r (0, omega arith, refl)) run),
    results_fit small targets scope taken s look d w g run rs (λ q c. always q (suc c.0, omega (arith, c.1), c.2)) (λ x e. known x (or_right (same_name x r.0) (is_among x (result_names rs)) e)),
  )
    where
      by : (o : Option Value) → found d r.0 ≡ o → IsSome (found d r.0) → IsOfForm sizes (result_form (assigned_form sizes r.0 scope s)) (look_of d r.0)
      by None e h = let none : IsSome {T = Value} None = subst (λ z. IsSome {T = Value} z) e h in cc
      by (Some v) e h =
          let k = known r.0 (or_left (same_name r.0 r.0) (is_among r.0 (result_names rs)) (same_name_self r.0)) in
          let f = run_forms small targets r.0 k.0 k.1 s scope taken look d w g run v e in
          let is : look_of d r.0 ≡ v = over_is d empty r.0 ∙ ap (λ z. or_look z nothing) e in
          subst (λ z. IsOfForm sizes (result_form z) (look_of d r.0)) (sym f.1) (subst (IsOfForm sizes (result_form (Some f.0))) (sym is) (result_of f.0 v f.2))

-- ---- in a typed system

pub small_sets : (y : System) → Typed y → AreSmallSets (set_sizes y)
small_sets y t set = go y.sets.sets.items (λ k s e. (t.sizes_of_sets k s e).1) set
  where
    go : (items : List SetNames) → ((k : ℕ) (s : SetNames) → IsAt items k s → length s.elements ≤ 256) → (set : ℕ) → size_of_set (map (λ (s : SetNames). length s.elements) items) set ≤ 256
    go [] h set = omega arith
    go (s ∷ items) h zero = h 0 s refl
    go (s ∷ items) h (suc set) = go items (λ k. h (suc k)) set

module _ (y : System) (t : Typed y) (k : ℕ) (m : Machine) (at : IsAt y.machines k m) (j : ℕ) (o : Operation) (listed : IsAt m.operations j o) (store : Look) (vs : List Value) where
  abbrev of : TypedOperation y m o
  of = (t.machines k m at).operations j o listed

  pub inside_agrees : GivesKinds (set_sizes y) m.variables store → Holds (set_sizes y) store m.invariant [] → AreOfKinds (set_sizes y) o.params vs →
      Holds (set_sizes y) (with_args o vs store) o.pre [] → Agrees (set_sizes y) (scope_in m o) (with_args o vs store)
  inside_agrees kinds inv are pre =
      let differ = new_differ (global_names y) (names o.params) (new_front (global_names y) (names o.params) (result_names o.results) of.new_names) in
      agrees_params (set_sizes y) o.params vs (scope_of m.variables) store (args_in (set_sizes y) o.params vs o.pre store differ are of.domains pre)
      (agrees_declared (set_sizes y) m.variables m.invariant store (t.machines k m at).domains kinds inv)

  pub results_of_forms : GivesKinds (set_sizes y) m.variables store → Holds (set_sizes y) store m.invariant [] → AreOfKinds (set_sizes y) o.params vs →
      Holds (set_sizes y) (with_args o vs store) o.pre [] → (d : Writes) → Runs (set_sizes y) o.body (with_args o vs store) d →
      AreOfForms (set_sizes y) (result_forms (set_sizes y) m o) (results_after o d)
  results_of_forms kinds inv are pre d run =
      results_fit (set_sizes y) (small_sets y t) (o.results ++ targets_of m.variables) (scope_in m o) (names o.params ++ result_names o.results ++ global_names y) o.body
      (with_args o vs store) d of.body (inside_agrees kinds inv are pre) run o.results of.writes_results (λ x e. result_known (set_sizes y) o.results (targets_of m.variables) x e)
