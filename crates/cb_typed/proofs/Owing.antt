-- What a machine of a typed system owes is kinded.
use Rattle.std.proofs.Common.{◌≡◌, ℕ, zero, suc, ◌+◌, ◌<◌, ◌≤◌, ◌==◌, Bool, true, false, ◌||◌, List, [], ◌∷◌, ◌++◌, ◌⊎◌, inl, inr, flat_map, Option, Some, None, refl, sym, ap, ap₂, ◌∙◌, subst, slice_get, if◌then◌else◌, true≢false, arith}
use Rattle.std.proofs.lemmas.Bool.{and_parts, and_from, eqb-true, eqb-false, cases_lt}
use Rattle.std.proofs.lemmas.Option.{same_Some}
use Rattle.cb_term.specs.declared.name.Name.{Name}
use Rattle.cb_term.specs.declared.kind.Kind.{Kind}
use Rattle.cb_term.specs.Names.{same_name}
use Rattle.cb_term.specs.Tree as tree
use Rattle.cb_term.specs.Tree.{FormulaTree}
use Rattle.cb_term.specs.Change.{name_stays}
use Rattle.cb_term.proofs.FreeLemmas.{or_left, or_right}
use Rattle.cb_term.proofs.ValueLemmas.{same_name_tells, same_name_self}
use Rattle.cb_seq.specs.declared.sequent.Group.{Group}
use Rattle.cb_seq.specs.declared.sequent.Group.TheVariants as group
use Rattle.cb_seq.specs.Kinds.{kind_in, kind_of, fits}
use Rattle.cb_seq.specs.Validity.{Claim, AllFit, AreDifferent, AllKinded}
use Rattle.cb_seq.proofs.MoreNames.{fits_more, fits_naming, all_naming, more_new, differ_more, names_kept}
use Rattle.cb_spec.specs.declared.system.Declared.{Declared}
use Rattle.cb_spec.specs.declared.system.Machine.{Machine}
use Rattle.cb_spec.specs.declared.system.Operation.{Operation}
use Rattle.cb_spec.specs.declared.system.System.{System}
use Rattle.cb_spec.specs.Bound.{names, result_names, is_among}
use Rattle.cb_spec.specs.Domains as domains
use Rattle.cb_spec.specs.Journals.{set_sizes}
use Rattle.cb_spec.specs.States.{IsAt}
use Rattle.cb_spec.specs.TypedSubsts as typed
use Rattle.cb_spec.specs.TypedProcesses.{scope_of, scope_in}
use Rattle.cb_spec.specs.Typed.{global_names, targets_of, TypedOperation, Typed}
use Rattle.cb_obligations.specs.Branches.{numbered, branches}
use Rattle.cb_obligations.specs.Transform.{transformed, live}
use Rattle.cb_obligations.specs.Pieces.{conjuncts, freed, with_opened, pieces_under}
use Rattle.cb_obligations.specs.Laws.{NamesUpTo}
use Rattle.cb_obligations.specs.Owed.{Owed, named, with_kinds, for_all, of_operation, pieces_of, init_owes, operation_owes, machine_owes}
use Rattle.cb_obligations.specs.Sufficing.{Differ}
use Rattle.cb_obligations.proofs.Calls.{neither}
use Rattle.cb_obligations.proofs.Cutting.{up_to, names_more}
use Rattle.cb_spec.specs.TypedTerms.{Scope}
use Rattle.cb_typed.specs.Erasure.{kind_of_form, kinds_in}
use Rattle.cb_typed.specs.Laws.{AllOwedKinded, TypedMachinesOweKinded}
use Rattle.cb_typed.proofs.Erasing.{formula_fits}
use Rattle.cb_typed.proofs.Naming.{new_written, new_differ}
use Rattle.cb_typed.proofs.Mapping.{IsBelow, below_self, mapped_fits}
use Rattle.cb_typed.proofs.Fitting as fitting
use Rattle.cb_typed.proofs.Kinding.{Names, just_names, just_kinds, closed_fits, all_fit, branches_fit, live_fits}

module _ (sizes : List ℕ) where
  -- ---- opened names in the places of bound variables

  module _ (ns : Names) where
    abbrev Known : Names → Type 0
    Known qs = (j : ℕ) (q : Name × Kind) → slice_get qs j ≡ Some q → kind_in ns q.0 ≡ Some q.1

    -- from place d on, there are no others than these
    abbrev Past : ℕ → List Kind → List Kind → Type 0
    Past d ks cs = (j : ℕ) (c : Kind) → slice_get ks (d + j) ≡ Some c → slice_get cs j ≡ Some c

    abbrev Split : List Kind → ℕ → List Kind → List Kind → Type 0
    Split cs d ks ks' = ((j : ℕ) (c : Kind) → j < d → slice_get ks' j ≡ Some c → slice_get ks j ≡ Some c) × Past d ks' cs

    past_more : (d : ℕ) (ks cs : List Kind) (c : Kind) → Past d ks cs → Past (d + 1) (c ∷ ks) cs
    past_more d ks cs c h j k e = let s : suc (d + j) ≡ d + 1 + j = omega arith in h j k (ap (slice_get (c ∷ ks)) s ∙ e)

    past_tail : (d : ℕ) (ks cs : List Kind) (c : Kind) → Past d ks (c ∷ cs) → Past (d + 1) ks cs
    past_tail d ks cs c h j k e = let s : d + suc j ≡ d + 1 + j = omega arith in h (suc j) k (ap (slice_get ks) s ∙ e)

    split_low : (d : ℕ) (ks ks' : List Kind) (c : Kind) → ((j : ℕ) (e : Kind) → j < d → slice_get ks' j ≡ Some e → slice_get ks j ≡ Some e) →
        (j : ℕ) (e : Kind) → j < d + 1 → slice_get (c ∷ ks') j ≡ Some e → slice_get (c ∷ ks) j ≡ Some e
    split_low d ks ks' c h zero e lt q = q
    split_low d ks ks' c h (suc j) e lt q = h j e (omega (arith, lt)) q

    distance : (i j : ℕ) → i ≤ j → (m : ℕ) × (j ≡ i + m)
    distance zero j le = (j, omega arith)
    distance (suc i) zero le = absurd (omega (arith, le))
    distance (suc i) (suc j) le = let d = distance i j (omega (arith, le)) in (d.0, omega (arith, d.1))

    freed_kind : (d j : ℕ) (c : Kind) (ks ks' : List Kind) → ((j : ℕ) (e : Kind) → j < d → slice_get ks' j ≡ Some e → slice_get ks j ≡ Some e) → slice_get ks' j ≡ Some c →
        (qs : Names) (i : ℕ) → Known qs → Past i ks' (just_kinds qs) → (j < d) ⊎ (i ≤ j) → IsBelow (kind_of sizes ns ks (freed (just_names qs) i j)) c
    freed_kind d j c ks ks' low e [] i kn past (inl lt) = (c, low j c lt e, below_self c)
    freed_kind d j c ks ks' low e [] i kn past (inr le) =
        let m = distance i j le in
        let none : slice_get [] m.0 ≡ Some c = past m.0 c (ap (slice_get ks') (sym m.1) ∙ e) in
        cc
    freed_kind d j c ks ks' low e (q ∷ qs) i kn past at = by (j == i) (eqb-true j i) (eqb-false j i)
        (λ t. freed_kind d j c ks ks' low e qs (i + 1) (λ k. kn (suc k)) (past_tail i ks' (just_kinds qs) q.1 past) t)
      where
        further : (j ≡ i → ⊥) → (j < d) ⊎ (i ≤ j) → (j < d) ⊎ (i + 1 ≤ j)
        further ne (inl lt) = inl lt
        further ne (inr le) = inr (omega (arith, ne, le))

        by : (b : Bool) → (b ≡ true → j ≡ i) → (b ≡ false → j ≡ i → ⊥) → ((j < d) ⊎ (i + 1 ≤ j) → IsBelow (kind_of sizes ns ks (freed (just_names qs) (i + 1) j)) c) →
            IsBelow (kind_of sizes ns ks (if b then tree.Var q.0 else freed (just_names qs) (i + 1) j)) c
        by true same other go =
            let s : i + 0 ≡ j = omega (arith, same refl) in
            (c, kn 0 q refl ∙ past 0 c (ap (slice_get ks') s ∙ e), below_self c)
        by false same other go = go (further (other refl) at)

    pub opened_fits : (qs : Names) → Known qs → (f : FormulaTree) → fits sizes ns (just_kinds qs) f ≡ true → fits sizes ns [] (with_opened (just_names qs) f) ≡ true
    opened_fits qs kn f e = mapped_fits sizes ns ns name_stays (freed (just_names qs)) (Split (just_kinds qs))
        (λ d ks ks' c r. (split_low d ks ks' c r.0, past_more d ks' (just_kinds qs) c r.1))
        (λ d y c ks ks' r h. (c, h, below_self c))
        (λ d j c ks ks' r h. freed_kind d j c ks ks' r.0 h qs d kn r.1 (cases_lt j d))
        f 0 [] (just_kinds qs) ((λ j c lt. absurd (omega (arith, lt))), (λ j c h. let s : j ≡ 0 + j = omega arith in ap (slice_get (just_kinds qs)) s ∙ h)) e

    fit_append : (fs gs : List FormulaTree) → AllFit sizes ns fs → AllFit sizes ns gs → AllFit sizes ns (fs ++ gs)
    fit_append [] gs a b = b
    fit_append (f ∷ fs) gs a b = (a.0, fit_append fs gs a.1 b)

    conjuncts_fit : (f : FormulaTree) → fits sizes ns [] f ≡ true → AllFit sizes ns (conjuncts f)
    conjuncts_fit (tree.And a b) e = let p = and_parts (fits sizes ns [] a) (fits sizes ns [] b) e in fit_append (conjuncts a) (conjuncts b) (conjuncts_fit a p.0) (conjuncts_fit b p.1)
    conjuncts_fit tree.True e = tt
    conjuncts_fit f e = (e, tt)

  kinded_append : (ps qs : List Claim) → AllKinded sizes ps → AllKinded sizes qs → AllKinded sizes (ps ++ qs)
  kinded_append [] qs a b = b
  kinded_append (p ∷ ps) qs a b = (a.0, kinded_append ps qs a.1 b)

  -- a name with a greater number is none of them
  unknown : (n : ℕ) (ns : Names) (y : Name) → NamesUpTo n ns → n < y.number → kind_in ns y ≡ None
  unknown n ns y u lt = by (kind_in ns y) refl
    where
      by : (o : Option Kind) → kind_in ns y ≡ o → o ≡ None
      by None e = refl
      by (Some k) e = let le = up_to sizes n ns y k u e in absurd (omega (arith, le, lt))

  known_more : (ns qs : Names) (y : Name) (c : Kind) → kind_in ns y ≡ None → Known ns qs → Known (ns ++ (y, c) ∷ []) ((y, c) ∷ qs)
  known_more ns qs y c none kn zero q e = let same : (y, c) ≡ q = same_Some _ _ e in subst (λ z. kind_in (ns ++ (y, c) ∷ []) z.0 ≡ Some z.1) same (more_new ns y c none)
  known_more ns qs y c none kn (suc j) q e = names_kept ns (y, c) q.0 q.1 (kn j q e)

  pub pieces_kinded : (f : FormulaTree) (qs : Names) (n : ℕ) (ns : Names) (hyps : List FormulaTree) → AreDifferent ns → NamesUpTo n ns → Known ns qs → AllFit sizes ns hyps →
      fits sizes ns (just_kinds qs) f ≡ true → AllKinded sizes (pieces_under (just_names qs) n ns hyps f)
  pieces_kinded (tree.And a b) qs n ns hyps d u kn h e =
      let p = and_parts (fits sizes ns (just_kinds qs) a) (fits sizes ns (just_kinds qs) b) e in
      kinded_append (pieces_under (just_names qs) n ns hyps a) (pieces_under (just_names qs) n ns hyps b) (pieces_kinded a qs n ns hyps d u kn h p.0) (pieces_kinded b qs n ns hyps d u kn h p.1)
  pieces_kinded (tree.Implies a b) qs n ns hyps d u kn h e =
      let p = and_parts (fits sizes ns (just_kinds qs) a) (fits sizes ns (just_kinds qs) b) e in
      let cs = conjuncts (with_opened (just_names qs) a) in
      pieces_kinded b qs n ns (hyps ++ cs) d u kn (fit_append ns hyps cs h (conjuncts_fit ns (with_opened (just_names qs) a) (opened_fits ns qs kn a p.0))) p.1
  pieces_kinded (tree.Every x c f) qs n ns hyps d u kn h e =
      let y = numbered x (n + 1) in
      let none = unknown n ns y u (omega arith) in
      pieces_kinded f ((y, c) ∷ qs) (n + 1) (ns ++ (y, c) ∷ []) hyps (differ_more ns y c none d) (names_more sizes n ns (y, c) u (omega arith))
      (known_more ns qs y c none kn) (all_naming sizes ns (y, c) hyps h) (fits_naming sizes ns (y, c) f (c ∷ just_kinds qs) e)
  pieces_kinded tree.True qs n ns hyps d u kn h e = tt
  pieces_kinded f qs n ns hyps d u kn h e = (record { differ = d; hypotheses = h; goal = opened_fits ns qs kn f e }, tt)

  -- ---- for all parameters

  abbrev pushed : List Declared → Names → Names
  pushed [] bs = bs
  pushed (d ∷ ds) bs = pushed ds ((d.name, domains.kind_of_domain d.domain) ∷ bs)

  for_all_fits : (ns : Names) (ds : List Declared) (bs : Names) (f : FormulaTree) → fits sizes (pushed ds bs ++ ns) [] f ≡ true → fits sizes ns (just_kinds bs) (for_all (just_names bs) ds f) ≡ true
  for_all_fits ns [] bs f e = closed_fits sizes ns bs f e
  for_all_fits ns (d ∷ ds) bs f e = for_all_fits ns ds ((d.name, domains.kind_of_domain d.domain) ∷ bs) f e

  not_pushed : (ns : Names) (ds : List Declared) (bs : Names) (y : Name) → is_among y (names ds) ≡ false → kind_in (pushed ds bs ++ ns) y ≡ kind_in (bs ++ ns) y
  not_pushed ns [] bs y e = refl
  not_pushed ns (d ∷ ds) bs y e =
      let n = neither (same_name y d.name) (is_among y (names ds)) e in
      not_pushed ns ds ((d.name, domains.kind_of_domain d.domain) ∷ bs) y n.1 ∙ ap (λ b. if b then Some (domains.kind_of_domain d.domain) else kind_in (bs ++ ns) y) n.0

  pushed_wider : (ns : Names) (ds : List Declared) (bs : Names) → Differ (names ds) → (y : Name) (c : Kind) → kind_in (with_kinds ds ++ ns) y ≡ Some c →
      (kind_in ns y ≡ Some c → is_among y (names ds) ≡ false → kind_in (bs ++ ns) y ≡ Some c) → kind_in (pushed ds bs ++ ns) y ≡ Some c
  pushed_wider ns [] bs n y c e q = q e refl
  pushed_wider ns (d ∷ ds) bs n y c e q = by (same_name y d.name) refl e q (pushed_wider ns ds ((d.name, domains.kind_of_domain d.domain) ∷ bs) n.1 y c)
    where
      k : Kind
      k = domains.kind_of_domain d.domain

      by : (b : Bool) → same_name y d.name ≡ b → (if b then Some k else kind_in (with_kinds ds ++ ns) y) ≡ Some c →
          (kind_in ns y ≡ Some c → (b || is_among y (names ds)) ≡ false → kind_in (bs ++ ns) y ≡ Some c) →
          (kind_in (with_kinds ds ++ ns) y ≡ Some c → (kind_in ns y ≡ Some c → is_among y (names ds) ≡ false → kind_in (((d.name, k) ∷ bs) ++ ns) y ≡ Some c) →
          kind_in (pushed ds ((d.name, k) ∷ bs) ++ ns) y ≡ Some c) →
          kind_in (pushed ds ((d.name, k) ∷ bs) ++ ns) y ≡ Some c
      by true s e q r =
          not_pushed ns ds ((d.name, k) ∷ bs) y (ap (λ z. is_among z (names ds)) (same_name_tells y d.name s) ∙ n.0)
          ∙ ap (λ b. if b then Some k else kind_in (bs ++ ns) y) s ∙ e
      by false s e q r = r e (λ h a. ap (λ b. if b then Some k else kind_in (bs ++ ns) y) s ∙ q h a)

  -- ---- the list

  named_kinded : (g : Group) (owner : Name) (part : Option Name) (i : ℕ) (qs : List Claim) → AllKinded sizes qs → AllOwedKinded sizes (named g owner part i qs)
  named_kinded g owner part i [] v = tt
  named_kinded g owner part i (q ∷ qs) v = (v.0, named_kinded g owner part (i + 1) qs v.1)

  owed_append : (as' bs : List Owed) → AllOwedKinded sizes as' → AllOwedKinded sizes bs → AllOwedKinded sizes (as' ++ bs)
  owed_append [] bs a b = b
  owed_append (o ∷ as') bs a b = (a.0, owed_append as' bs a.1 b)

  owed_flat : (f : Operation → List Owed) (os : List Operation) → ((j : ℕ) (o : Operation) → IsAt os j o → AllOwedKinded sizes (f o)) → AllOwedKinded sizes (flat_map f os)
  owed_flat f [] h = tt
  owed_flat f (o ∷ os) h = owed_append (f o) (flat_map f os) (h 0 o refl) (owed_flat f os (λ j p e. h (suc j) p e))

differ_back : (xs ys : List Name) → Differ (xs ++ ys) → (y : Name) → is_among y xs ≡ true → is_among y ys ≡ false
differ_back [] ys n y e = cc
differ_back (x ∷ xs) ys n y e = by (same_name y x) refl e (differ_back xs ys n.1 y)
  where
    after : (zs : List Name) → is_among x (zs ++ ys) ≡ false → is_among x ys ≡ false
    after [] h = h
    after (z ∷ zs) h = after zs (neither (same_name x z) (is_among x (zs ++ ys)) h).1

    by : (b : Bool) → same_name y x ≡ b → (b || is_among y xs) ≡ true → (is_among y xs ≡ true → is_among y ys ≡ false) → is_among y ys ≡ false
    by true s e r = ap (λ z. is_among z ys) (same_name_tells y x s) ∙ after xs n.0
    by false s e r = r e

module _ (y : System) (t : Typed y) (k : ℕ) (m : Machine) (at : IsAt y.machines k m) where
  abbrev sizes : List ℕ
  sizes = set_sizes y

  abbrev vs : Names
  vs = with_kinds m.variables

  vs_differ : AreDifferent vs
  vs_differ = by m.variables (fitting.variables_differ y t k m at)
    where
      none : (ds : List Declared) (x : Name) → is_among x (names ds) ≡ false → kind_in (with_kinds ds) x ≡ None
      none [] x e = refl
      none (d ∷ ds) x e =
          let n = neither (same_name x d.name) (is_among x (names ds)) e in
          ap (λ b. if b then Some (domains.kind_of_domain d.domain) else kind_in (with_kinds ds) x) n.0 ∙ none ds x n.1

      by : (ds : List Declared) → Differ (names ds) → AreDifferent (with_kinds ds)
      by [] n = tt
      by (d ∷ ds) n = (none ds d.name n.0, by ds n.1)

  vs_written : NamesUpTo 0 vs
  vs_written = fitting.variables_up y t k m at m.variables (fitting.variable_written y t k m at)

  inv_fits : fits sizes vs [] m.invariant ≡ true
  inv_fits = subst (λ ns. fits sizes ns [] m.invariant ≡ true) (fitting.scope_kinds sizes m.variables)
      (formula_fits sizes (scope_of m.variables) (global_names y) m.invariant [] (fitting.typed_machine y t k m at).invariant)

  pieces_fine : (f : FormulaTree) → fits sizes vs [] f ≡ true → AllKinded sizes (pieces_of m f)
  pieces_fine f e = pieces_kinded sizes f [] 0 vs [] vs_differ vs_written (λ j q h. cc) tt e

  init_fine : AllOwedKinded sizes (init_owes m)
  init_fine =
      let w = (fitting.typed_machine y t k m at).init in
      let bs = branches_fit sizes vs (targets_of m.variables) (λ x a b h i. same_Some a b (sym h ∙ fitting.targets_kind sizes m.variables x ∙ i)) m.init 0 [] [] (global_names y) vs w (λ x c h. cc) vs_written in
      owed_append sizes (named group.Init m.name None 1 (pieces_of m (transformed m.init m.invariant))) (named group.Live m.name None 1 (pieces_of m (live m.init)))
      (named_kinded sizes group.Init m.name None 1 (pieces_of m (transformed m.init m.invariant)) (pieces_fine (transformed m.init m.invariant) (all_fit sizes vs (branches m.init) m.invariant bs inv_fits)))
      (named_kinded sizes group.Live m.name None 1 (pieces_of m (live m.init))
      (pieces_fine (live m.init) (fits_more sizes [] vs (λ x c h. cc) (live m.init) [] [] (λ j c h. h) (live_fits sizes [] (targets_of m.variables) m.init [] [] (global_names y) w refl))))

  module _ (o : Operation) (of : TypedOperation y m o) where
    abbrev ps : Names
    ps = with_kinds o.params

    in_scope : kinds_in (scope_in m o) ≡ ps ++ vs
    in_scope = both (scope_of o.params) (scope_of m.variables) ∙ ap₂ (λ a b. a ++ b) (fitting.scope_kinds sizes o.params) (fitting.scope_kinds sizes m.variables)
      where
        both : (a b : Scope) → kinds_in (a ++ b) ≡ kinds_in a ++ kinds_in b
        both [] b = refl
        both (p ∷ a) b = ap (λ z. (p.0, kind_of_form p.1) ∷ z) (both a b)

    params_new : (x : Name) → is_among x (names m.variables) ≡ true → is_among x (names o.params) ≡ false
    params_new x e = fitting.no_param y t k m at 0 o of x e

    no_param_kind : (ds : List Declared) (x : Name) → is_among x (names ds) ≡ false → kind_in (with_kinds ds ++ vs) x ≡ kind_in vs x
    no_param_kind [] x e = refl
    no_param_kind (d ∷ ds) x e =
        let n = neither (same_name x d.name) (is_among x (names ds)) e in
        ap (λ b. if b then Some (domains.kind_of_domain d.domain) else kind_in (with_kinds ds ++ vs) x) n.0 ∙ no_param_kind ds x n.1

    inner_written : NamesUpTo 0 (ps ++ vs)
    inner_written = by o.params (λ x e. new_written (global_names y) (names o.params) (fitting.new_params y t k m at 0 o of) x e)
      where
        by : (ds : List Declared) → ((x : Name) → is_among x (names ds) ≡ true → x.number ≡ 0) → NamesUpTo 0 (with_kinds ds ++ vs)
        by [] h = vs_written
        by (d ∷ ds) h = (
          omega (arith, h d.name (or_left (same_name d.name d.name) (is_among d.name (names ds)) (same_name_self d.name))),
          by ds (λ x e. h x (or_right (same_name x d.name) (is_among x (names ds)) e)),
        )

    inner_inv : fits sizes (ps ++ vs) [] m.invariant ≡ true
    inner_inv = fits_more sizes vs (ps ++ vs) (λ x c h. no_param_kind o.params x (params_new x (fitting.kind_of_declared sizes m.variables x c h)) ∙ h) m.invariant [] [] (λ j c h. h) inv_fits

    pre_fits : fits sizes (ps ++ vs) [] o.pre ≡ true
    pre_fits = subst (λ ns. fits sizes ns [] o.pre ≡ true) in_scope
        (formula_fits sizes (scope_in m o) (names o.params ++ result_names o.results ++ global_names y) o.pre [] of.precondition)

    agree : (x : Name) (a c : Kind) → typed.kind_of_target (o.results ++ targets_of m.variables) x ≡ Some a → kind_in (ps ++ vs) x ≡ Some c → a ≡ c
    agree x a c h i = fitting.result_target o.results (targets_of m.variables) x a (a ≡ c) h
        (λ r. absurd (of_result r))
        (λ v. let is = sym (fitting.targets_kind sizes m.variables x) ∙ v in
        same_Some a c (sym is ∙ sym (no_param_kind o.params x (params_new x (fitting.kind_of_declared sizes m.variables x a is))) ∙ i))
      where
        n : Differ (names o.params ++ result_names o.results)
        n = new_differ (global_names y) (names o.params ++ result_names o.results) of.new_names

        of_result : is_among x (result_names o.results) ≡ true → ⊥
        of_result r = by (is_among x (names o.params)) refl
          where
            by : (b : Bool) → is_among x (names o.params) ≡ b → ⊥
            by true e = true≢false (sym r ∙ differ_back (names o.params) (result_names o.results) n x e)
            by false e =
                let v = fitting.kind_of_declared sizes m.variables x c (sym (no_param_kind o.params x e) ∙ i) in
                true≢false (sym r ∙ fitting.variable_no_result y t k m at 0 o of x v)

    around_fine : (f : FormulaTree) → fits sizes (ps ++ vs) [] f ≡ true → AllKinded sizes (pieces_of m (of_operation m.invariant o f))
    around_fine f e =
        let g : fits sizes (ps ++ vs) [] (tree.Implies o.pre f) ≡ true = and_from _ _ pre_fits e in
        let wide = fits_more sizes (ps ++ vs) (pushed sizes o.params [] ++ vs)
        (λ x c h. pushed_wider sizes vs o.params [] (new_differ (global_names y) (names o.params) (fitting.new_params y t k m at 0 o of)) x c h (λ q a. q)) (tree.Implies o.pre f) [] [] (λ j c h. h) g in
        pieces_fine (of_operation m.invariant o f) (and_from _ _ inv_fits (for_all_fits sizes vs o.params [] (tree.Implies o.pre f) wide))

    operation_fine : AllOwedKinded sizes (operation_owes m o)
    operation_fine =
        let w = of.body in
        let opens = λ (x : Name) (c : Kind) (h : kind_in (kinds_in (scope_in m o)) x ≡ Some c). subst (λ ns. kind_in ns x ≡ Some c) in_scope h in
        let bs = branches_fit sizes (ps ++ vs) (o.results ++ targets_of m.variables) agree o.body 0 [] (scope_in m o) (names o.params ++ result_names o.results ++ global_names y) (ps ++ vs) w opens inner_written in
        let f = transformed o.body m.invariant in
        owed_append sizes (named group.Op m.name (Some o.name) 1 (pieces_of m (of_operation m.invariant o f))) (named group.Live m.name (Some o.name) 1 (pieces_of m (of_operation m.invariant o (live o.body))))
        (named_kinded sizes group.Op m.name (Some o.name) 1 (pieces_of m (of_operation m.invariant o f)) (around_fine f (all_fit sizes (ps ++ vs) (branches o.body) m.invariant bs inner_inv)))
        (named_kinded sizes group.Live m.name (Some o.name) 1 (pieces_of m (of_operation m.invariant o (live o.body)))
        (around_fine (live o.body) (live_fits sizes (ps ++ vs) (o.results ++ targets_of m.variables) o.body [] (scope_in m o) (names o.params ++ result_names o.results ++ global_names y) w in_scope)))

  pub all_fine : AllOwedKinded sizes (machine_owes m)
  all_fine = owed_append sizes (init_owes m) (flat_map (λ (o : Operation). operation_owes m o) m.operations) init_fine
      (owed_flat sizes (λ (o : Operation). operation_owes m o) m.operations (λ j o i. operation_fine o ((fitting.typed_machine y t k m at).operations j o i)))

pub typed_machines_owe_kinded : TypedMachinesOweKinded
typed_machines_owe_kinded y t k m at = all_fine y t k m at
