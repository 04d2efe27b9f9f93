-- What the formulas of branches say of the runs of branches; and the liveness formula.
use Rattle.std.proofs.Common.{◌≡◌, ℕ, ◌+◌, Bool, true, false, List, [], ◌∷◌, ◌++◌, inl, inr, ◌↔◌, refl, sym, ap, subst, arith, if◌then◌else◌, slice_index_or}
use Rattle.cb_term.specs.declared.name.Name.{Name}
use Rattle.cb_term.specs.declared.value.Value.{Value}
use Rattle.std.proofs.lemmas.Bool.{and_parts}
use Rattle.std.proofs.lemmas.Int.{ints}
use Rattle.cb_term.specs.declared.kind.Domain.{Domain}
use Rattle.cb_term.specs.declared.kind.Domain.TheVariants as domain
use Rattle.cb_term.specs.declared.value.Value.TheVariants as value
use Rattle.cb_term.specs.Names.{same_name}
use Rattle.cb_term.proofs.SameLemmas.{same_holds}
use Rattle.cb_term.specs.Tree as tree
use Rattle.cb_term.specs.Tree.{TermTree, FormulaTree, And, Exist, Every, Implies}
use Rattle.cb_term.specs.Values.{Look, nothing, set_at, IsOf}
use Rattle.cb_term.specs.Holds.{Holds, IsValue}
use Rattle.cb_term.specs.Change.{mapped_term, mapped_formula, bound_stays}
use Rattle.cb_term.specs.Closed.{IsClosed}
use Rattle.cb_term.proofs.HoldsLemmas.{IsStable, holds_stable, by_value}
use Rattle.cb_term.proofs.ValueLemmas.{value_stable}
use Rattle.cb_term.proofs.Equivalences.{stays, then_iff, not_iff, and_iff, implies_iff, each_iff}
use Rattle.cb_term.proofs.ClosedLemmas.{closed_holds}
use Rattle.cb_term.proofs.ChangeLemmas.{mapped_meets, mapped_holds}
use Rattle.cb_spec.specs.SubstTree.{SubstTree, Skip, Assign, Together, Choice, If, AnyOf, SubstTrees, End, More}
use Rattle.cb_spec.specs.Domains.{kind_of_domain, In, HasElements, typing}
use Rattle.cb_spec.specs.Stores.{Writes, over}
use Rattle.cb_spec.specs.Runs.{Live, LiveEach, HasConjunct, Fits, FitEach}
use Rattle.cb_spec.proofs.DomainLemmas.{domain_typing}
use Rattle.cb_obligations.specs.Written.{IsPlain, AsWritten, AsWrittenEach}
use Rattle.cb_obligations.specs.Branches.{Item, Bind, Guard, Assigned}
use Rattle.cb_obligations.specs.Transform.{as_bound, closed_over, assigned, branch_formula, is_choice, live_under, live_each}
use Rattle.cb_obligations.proofs.Stores.{set_here, names_of, values_of, Shift, shift_none, shift_more, shift_tail, shift_head}

module _ (sizes : List ℕ) where
  -- the values of the written terms, in the store
  abbrev pub ValuesAre : Assigned → Look → Writes → Type 0
  ValuesAre [] l [] = Unit {0}
  ValuesAre [] l (p ∷ d) = ⊥
  ValuesAre (w ∷ ws) l [] = ⊥
  ValuesAre (w ∷ ws) l (p ∷ d) = (w.0 ≡ p.0) × IsValue sizes l w.1 [] p.1 × ValuesAre ws l d

  -- for all values of the bound names that make the guards true, the store that they lead to
  abbrev pub Under : List Item → Look → (Look → Type 0) → Type 0
  Under [] l P = P l
  Under (Bind x kind ∷ is) l P = (v : Value) → IsOf sizes kind v → Under is (set_at l x v) P
  Under (Guard p ∷ is) l P = Holds sizes l p [] → Under is l P

  -- what is bound around it is nothing to it
  abbrev pub SteadyTerm : TermTree → Type 0
  SteadyTerm t = (l : Look) (env : List Value) (v : Value) → IsValue sizes l t [] v → IsValue sizes l t env v

  abbrev pub Steady : FormulaTree → Type 0
  Steady f = (l : Look) (env : List Value) → Holds sizes l f env ↔ Holds sizes l f []

  abbrev pub SteadyItems : List Item → Type 0
  SteadyItems [] = Unit {0}
  SteadyItems (Bind x kind ∷ is) = SteadyItems is
  SteadyItems (Guard p ∷ is) = Steady p × SteadyItems is

  abbrev pub SteadyWrites : Assigned → Type 0
  SteadyWrites [] = Unit {0}
  SteadyWrites (w ∷ ws) = SteadyTerm w.1 × SteadyWrites ws

  module _ (look : Look) (ps : Writes) (rest : List Value) where
    -- the place that a name is given has the name's value
    pub as_bound_value : (qs : Writes) (y : Name) (k : ℕ) (env : List Value) → Shift k env (values_of qs ++ rest) → IsValue sizes look (as_bound (names_of qs) k y) env (over qs look y)
    as_bound_value [] y k env h = refl
    as_bound_value (q ∷ qs) y k env h = by_test (same_name y q.0) (as_bound_value qs y (k + 1) env (shift_tail k env (values_of qs ++ rest) q.1 h))
      where
        by_test : (b : Bool) → IsValue sizes look (as_bound (names_of qs) (k + 1) y) env (over qs look y) →
            IsValue sizes look (if b then tree.Bound k else as_bound (names_of qs) (k + 1) y) env (if b then q.1 else over qs look y)
        by_test true i = shift_head k env (values_of qs ++ rest) q.1 h
        by_test false i = i

    abbrev Around : ℕ → List Value → List Value → Type 0
    Around k env env' = (env ≡ env') × Shift k env (values_of ps ++ rest)

    around_more : (k : ℕ) (env env' : List Value) (v : Value) → Around k env env' → Around (k + 1) (v ∷ env) (v ∷ env')
    around_more k env env' v r = (ap (λ e. v ∷ e) r.0, shift_more k env (values_of ps ++ rest) v r.1)

    stay_value : (k j : ℕ) (env env' : List Value) → Around k env env' → IsValue sizes look (bound_stays k j) env (slice_index_or env' j nothing)
    stay_value k j env env' r = ap (λ e. slice_index_or e j nothing) r.0

    -- a formula over the bound names, with their places for them
    pub closed_over_holds : (f : FormulaTree) → Holds sizes look (closed_over (names_of ps) f) (values_of ps ++ rest) ↔ Holds sizes (over ps look) f (values_of ps ++ rest)
    closed_over_holds f = mapped_holds sizes look (over ps look) (as_bound (names_of ps)) bound_stays Around around_more
        (λ k y env env' r. as_bound_value ps y k env r.1) stay_value ⊥ f 0 (values_of ps ++ rest) (values_of ps ++ rest) (refl, shift_none (values_of ps ++ rest))

    -- the term that is written to a name has the value that is written
    assigned_value : (ws : Assigned) (d : Writes) → SteadyWrites ws → ValuesAre ws (over ps look) d →
        (k : ℕ) (y : Name) (env : List Value) → Shift k env (values_of ps ++ rest) → IsValue sizes look (assigned (names_of ps) ws k y) env (over d look y)
    assigned_value [] [] st va k y env h = refl
    assigned_value [] (p ∷ d) st va k y env h = absurd va
    assigned_value (w ∷ ws) [] st va k y env h = absurd va
    assigned_value (w ∷ ws) (p ∷ d) st va k y env h =
        subst (λ x. IsValue sizes look (assigned (names_of ps) (w ∷ ws) k y) env (if same_name y x then p.1 else over d look y)) va.0
        (by_test (same_name y w.0) (assigned_value ws d st.1 va.2 k y env h))
      where
        here : IsValue sizes look (mapped_term (as_bound (names_of ps)) bound_stays k w.1) env p.1
        here = (mapped_meets sizes look (over ps look) (as_bound (names_of ps)) bound_stays Around around_more
            (λ k y env env' r. as_bound_value ps y k env r.1) stay_value w.1 k env env (λ u. u ≡ p.1) (refl, h) (λ u. value_stable u p.1)).1
            (st.0 (over ps look) env p.1 va.1)

        by_test : (b : Bool) → IsValue sizes look (assigned (names_of ps) ws k y) env (over d look y) →
            IsValue sizes look (if b then mapped_term (as_bound (names_of ps)) bound_stays k w.1 else assigned (names_of ps) ws k y) env (if b then p.1 else over d look y)
        by_test true i = here
        by_test false i = i

    -- the formula with all written names replaced at once
    pub assigned_holds : (ws : Assigned) (d : Writes) (r : FormulaTree) → SteadyWrites ws → ValuesAre ws (over ps look) d → IsClosed 0 r →
        Holds sizes look (mapped_formula (assigned (names_of ps) ws) bound_stays 0 r) (values_of ps ++ rest) ↔ Holds sizes (over d look) r []
    assigned_holds ws d r st va c = then_iff
        (mapped_holds sizes look (over d look) (assigned (names_of ps) ws) bound_stays Around around_more
        (λ k y env env' a. assigned_value ws d st va k y env a.1) stay_value ⊥ r 0 (values_of ps ++ rest) (values_of ps ++ rest) (refl, shift_none (values_of ps ++ rest)))
        (closed_holds sizes (over d look) ⊥ r 0 (values_of ps ++ rest) [] (λ j lt. absurd (omega (arith, lt))) c)

  -- written terms have values, as far as a stable goal can tell
  pub by_values_of : (ws : Assigned) (l : Look) (C : Type 0) → IsStable C → ((d : Writes) → ValuesAre ws l d → C) → C
  by_values_of [] l C st go = go [] tt
  by_values_of (w ∷ ws) l C st go = by_value sizes l w.1 [] C st (λ v is. by_values_of ws l C st (λ d va. go ((w.0, v) ∷ d) (refl, is, va)))

  module _ (look : Look) (rest : List Value) (r : FormulaTree) (closed : IsClosed 0 r) where
    abbrev After : Assigned → Look → Type 0
    After ws l = (d : Writes) → ValuesAre ws l d → Holds sizes (over d look) r []

    -- the formula of a branch says that the formula holds after each run of the branch
    pub branch_holds : (is : List Item) (ws : Assigned) (ps : Writes) → SteadyItems is → SteadyWrites ws →
        Holds sizes look (branch_formula (names_of ps) is ws r) (values_of ps ++ rest) ↔ Under is (over ps look) (After ws)
    branch_holds [] ws ps si sw = (
      (λ h d va. (assigned_holds look ps rest ws d r sw va closed).0 h),
      (λ h. by_values_of ws (over ps look) (Holds sizes look (mapped_formula (assigned (names_of ps) ws) bound_stays 0 r) (values_of ps ++ rest))
          (holds_stable sizes look (mapped_formula (assigned (names_of ps) ws) bound_stays 0 r) (values_of ps ++ rest)) (λ d va. (assigned_holds look ps rest ws d r sw va closed).1 (h d va))),
    )
    branch_holds (Bind x kind ∷ is) ws ps si sw = each_iff (λ v. branch_holds is ws ((x, v) ∷ ps) si sw)
    branch_holds (Guard p ∷ is) ws ps si sw =
        implies_iff (then_iff (closed_over_holds look ps rest p) (si.0 (over ps look) (values_of ps ++ rest))) (branch_holds is ws ps si.1 sw)

  -- ---- live

  pub from_conjunct : (g f : FormulaTree) → HasConjunct g f → (l : Look) (env : List Value) → Holds sizes l f env → Holds sizes l g env
  from_conjunct g (And a b) (inl c) l env h = from_conjunct g a c l env h.0
  from_conjunct g (And a b) (inr c) l env h = from_conjunct g b c l env h.1
  from_conjunct g f c l env h = subst (λ z. Holds sizes l z env) c h

  pub is_in : (z : Name) (domain : Domain) (p : FormulaTree) (l : Look) (v : Value) → HasConjunct (typing (tree.Var z) domain) p →
      IsOf sizes (kind_of_domain domain) v → Holds sizes (set_at l z v) p [] → In sizes domain v
  is_in z domain p l v c o h = subst (In sizes domain) (set_here l z v) ((domain_typing sizes domain (set_at l z v) z).1
      (subst (IsOf sizes (kind_of_domain domain)) (sym (set_here l z v)) o, from_conjunct (typing (tree.Var z) domain) p c (set_at l z v) [] h))

  pub kind_in : (z : Name) (domain : Domain) (l : Look) (v : Value) → In sizes domain v → IsOf sizes (kind_of_domain domain) v
  kind_in z domain l v i =
      subst (IsOf sizes (kind_of_domain domain)) (set_here l z v) ((domain_typing sizes domain (set_at l z v) z).0 (subst (In sizes domain) (sym (set_here l z v)) i)).0

  -- a domain that has elements has one
  element : (d : Domain) → HasElements sizes d → (v : Value) × In sizes d v
  element (domain.Range lo hi) h = (value.Int lo, (omega (arith, ints), h))
  element domain.Truth h = (value.Truth true, tt)
  element (domain.Elems set) h = (value.Elem 0, h)
  element (domain.Subsets lo hi) h = (value.Set [], (tt, tt))
  element (domain.ElemSubsets set) h = (value.Set [], (tt, tt))

  -- what `x :: D` stands for is live
  choice_live : (z : Name) (d : Domain) (p : FormulaTree) (s : SubstTree) (look : Look) → is_choice z d p s ≡ true → HasElements sizes d → Live sizes (AnyOf z d p s) look
  choice_live z d p (Assign x e) look c h =
      let v = element d h in
      let l = set_at look z v.0 in
      let t = (domain_typing sizes d l z).0 (subst (In sizes d) (sym (set_here look z v.0)) v.1) in
      let alike = same_holds sizes l ⊥ p (typing (tree.Var z) d) (and_parts _ _ c).1 [] in
      ((λ none. none v.0 v.1 (alike.1 t.1)), (λ w i q. tt))
  choice_live z d p Skip look c h = cc
  choice_live z d p (Together a b) look c h = cc
  choice_live z d p (Choice ss) look c h = cc
  choice_live z d p (If q a b) look c h = cc
  choice_live z d p (AnyOf y e q s) look c h = cc

  module _ (look : Look) (rest : List Value) where
    unless_choice : (z : Name) (d : Domain) (p : FormulaTree) (s : SubstTree) (l : Look) (f : FormulaTree) (env : List Value) → HasElements sizes d →
        (Holds sizes look f env ↔ Live sizes (AnyOf z d p s) l) → Holds sizes look (if is_choice z d p s then tree.True else f) env ↔ Live sizes (AnyOf z d p s) l
    unless_choice z d p s l f env h g = by (is_choice z d p s) refl
      where
        by : (b : Bool) → is_choice z d p s ≡ b → Holds sizes look (if b then tree.True else f) env ↔ Live sizes (AnyOf z d p s) l
        by true e = ((λ t. choice_live z d p s l e h), (λ t. tt))
        by false e = g

    guard_holds : (ps : Writes) (p : FormulaTree) → IsPlain p → Holds sizes look (closed_over (names_of ps) p) (values_of ps ++ rest) ↔ Holds sizes (over ps look) p []
    guard_holds ps p c = then_iff (closed_over_holds look ps rest p)
        (closed_holds sizes (over ps look) ⊥ p 0 (values_of ps ++ rest) [] (λ j lt. absurd (omega (arith, lt))) c.1)

    mutual
      pub live_holds : (s : SubstTree) → AsWritten s → Fits sizes s → (ps : Writes) → Holds sizes look (live_under (names_of ps) s) (values_of ps ++ rest) ↔ Live sizes s (over ps look)
      live_holds Skip w f ps = stays
      live_holds (Assign x e) w f ps = stays
      live_holds (Together a b) w f ps = and_iff (live_holds a w.0 f.1 ps) (live_holds b w.1 f.2 ps)
      live_holds (Choice End) w f ps = absurd f
      live_holds (Choice (More s ss)) w f ps = live_each_holds (More s ss) w f ps
      live_holds (If p a b) w f ps =
          let g = guard_holds ps p w.0 in
          and_iff (implies_iff g (live_holds a w.1.0 f.0 ps)) (implies_iff (not_iff g) (live_holds b w.1.1 f.1 ps))
      live_holds (AnyOf z domain p s) w f ps =
          let l = over ps look in
          let g : (v : Value) → Holds sizes look (closed_over (z ∷ names_of ps) p) (v ∷ values_of ps ++ rest) ↔ Holds sizes (set_at l z v) p [] =
          λ v. guard_holds ((z, v) ∷ ps) p w.1.0 in
          let q : (v : Value) → Holds sizes look (live_under (z ∷ names_of ps) s) (v ∷ values_of ps ++ rest) ↔ Live sizes s (set_at l z v) =
          λ v. live_holds s w.1.1 f.2 ((z, v) ∷ ps) in
          unless_choice z domain p s l (And (Exist z (kind_of_domain domain) (closed_over (z ∷ names_of ps) p))
          (Every z (kind_of_domain domain) (Implies (closed_over (z ∷ names_of ps) p) (live_under (z ∷ names_of ps) s)))) (values_of ps ++ rest) f.1 (and_iff
          (not_iff (
            (λ h v i hp. h v (kind_in z domain l v i) ((g v).1 hp)),
            (λ h v o hc. h v (is_in z domain p l v f.0 o ((g v).0 hc)) ((g v).0 hc)),
          )) (
            (λ h v i hp. (q v).0 (h v (kind_in z domain l v i) ((g v).1 hp))),
            (λ h v o hc. (q v).1 (h v (is_in z domain p l v f.0 o ((g v).0 hc)) ((g v).0 hc))),
          ))

      pub live_each_holds : (ss : SubstTrees) → AsWrittenEach ss → FitEach sizes ss → (ps : Writes) → Holds sizes look (live_each (names_of ps) ss) (values_of ps ++ rest) ↔ LiveEach sizes ss (over ps look)
      live_each_holds End w f ps = stays
      live_each_holds (More s End) w f ps = let s' = live_holds s w.0 f.0 ps in ((λ h. (s'.0 h, tt)), (λ h. s'.1 h.0))
      live_each_holds (More s (More t ss)) w f ps = and_iff (live_holds s w.0 f.0 ps) (live_each_holds (More t ss) w.1 f.1 ps)
