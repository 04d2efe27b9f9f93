-- The formulas of obligations fit, and so their pieces are kinded.
use Rattle.std.proofs.Common.{◌≡◌, ℕ, zero, suc, ◌+◌, ◌<◌, ◌==◌, Bool, true, false, ◌&&◌, List, [], ◌∷◌, ◌++◌, map, Some, refl, sym, ap, ap₂, ◌∙◌, subst, slice_get, if◌then◌else◌, arith, bytes_eq}
use Rattle.std.proofs.lemmas.Bool.{and_from, eqb-true}
use Rattle.std.proofs.lemmas.Option.{same_Some}
use Rattle.cb_term.specs.declared.name.Name.{Name}
use Rattle.cb_term.specs.declared.kind.Kind.{Kind}
use Rattle.cb_term.specs.declared.kind.Kind.TheVariants as kind
use Rattle.cb_term.specs.declared.kind.Base.TheVariants as base
use Rattle.cb_term.specs.Names.{same_name}
use Rattle.cb_term.specs.Tree as tree
use Rattle.cb_term.specs.Tree.{TermTree, FormulaTree}
use Rattle.cb_term.specs.Change.{mapped_term, bound_stays}
use Rattle.cb_term.proofs.ValueLemmas.{same_name_tells, same_name_self}
use Rattle.cb_seq.specs.Kinds.{kind_in, kind_of, fits}
use Rattle.cb_seq.proofs.MoreNames.{Extends, kind_more}
use Rattle.cb_spec.specs.SubstTree.{SubstTree, Skip, Assign, Together, Choice, If, AnyOf, SubstTrees, End, More}
use Rattle.cb_spec.specs.Domains as domains
use Rattle.cb_spec.specs.Forms.{Form, Number, Truth, Element, Numbers, TruthSet, Elements, Empty, form_of_domain, is_of_kind}
use Rattle.cb_spec.specs.TypedTerms.{Scope}
use Rattle.cb_spec.specs.TypedSubsts.{TypedSubst, TypedSides}
use Rattle.cb_spec.specs.TypedSubsts as typed
use Rattle.cb_obligations.specs.Written.{IsWritten}
use Rattle.cb_obligations.specs.Branches as made
use Rattle.cb_obligations.specs.Branches.{Item, Bind, Guard, Assigned, Branch, numbered, opened_name, opened_names, opened_term, opened, binds, guarded, joined_branch, branches_from, branches_of_each, branches}
use Rattle.cb_obligations.specs.Transform.{as_bound, closed_over, assigned, branch_formula, and_branches, all_branches, is_choice, live_under, live_each}
use Rattle.cb_obligations.specs.Laws.{NamesUpTo}
use Rattle.cb_obligations.proofs.Runs.{EachOf, each_append, each_map, each_flat_map, each_step, Numbered, numbered_append}
use Rattle.cb_obligations.proofs.Cutting.{up_to}
use Rattle.cb_typed.specs.Erasure.{kind_of_form, kinds_in}
use Rattle.cb_typed.proofs.Erasing.{domain_kind, some_and, formula_fits}
use Rattle.cb_typed.proofs.Naming.{as_kind}
use Rattle.cb_typed.proofs.Mapping.{Below, IsBelow, below_self, below_then, mapped_kind, mapped_fits}

abbrev pub Names : Type 0
Names = List (Name × Kind)

abbrev pub just_names : Names → List Name
just_names ns = map (λ (n : Name × Kind). n.0) ns

abbrev pub just_kinds : Names → List Kind
just_kinds ns = map (λ (n : Name × Kind). n.1) ns

-- a name that has a kind has it among these too
abbrev pub Wider : Names → Names → Type 0
Wider ns ms = (y : Name) (c : Kind) → kind_in ns y ≡ Some c → kind_in ms y ≡ Some c

-- from place d on, `ks` are `cs`
abbrev pub Behind : ℕ → List Kind → List Kind → Type 0
Behind d ks cs = (j : ℕ) (c : Kind) → slice_get cs j ≡ Some c → slice_get ks (d + j) ≡ Some c

behind_none : (cs : List Kind) → Behind 0 cs cs
behind_none cs j c h = let s : 0 + j ≡ j = omega arith in ap (slice_get cs) s ∙ h

behind_more : (d : ℕ) (ks cs : List Kind) (c : Kind) → Behind d ks cs → Behind (d + 1) (c ∷ ks) cs
behind_more d ks cs c h j k e = let s : d + 1 + j ≡ suc (d + j) = omega arith in ap (slice_get (c ∷ ks)) s ∙ h j k e

behind_tail : (d : ℕ) (ks cs : List Kind) (c : Kind) → Behind d ks (c ∷ cs) → Behind (d + 1) ks cs
behind_tail d ks cs c h j k e = let s : d + 1 + j ≡ d + suc j = omega arith in ap (slice_get ks) s ∙ h (suc j) k e

behind_head : (d : ℕ) (ks cs : List Kind) (c : Kind) → Behind d ks (c ∷ cs) → slice_get ks d ≡ Some c
behind_head d ks cs c h = let s : d ≡ d + 0 = omega arith in ap (slice_get ks) s ∙ h 0 c refl

extends_more : (ks ks' : List Kind) (c : Kind) → Extends ks ks' → Extends (c ∷ ks) (c ∷ ks')
extends_more ks ks' c h zero k e = e
extends_more ks ks' c h (suc j) k e = h j k e

same_written : (y z : Name) (n : ℕ) → IsWritten z → same_name y (numbered (numbered z n) 0) ≡ same_name y z
same_written y z n w = ap (λ i. bytes_eq y.text z.text && (y.number == i)) (sym w)

up_more : (k : ℕ) (ms : Names) → NamesUpTo k ms → NamesUpTo (k + 1) ms
up_more k [] u = tt
up_more k (m ∷ ms) u = (omega (arith, u.0), up_more k ms u.1)

up_one : (k : ℕ) (ms : Names) (x : Name) (c : Kind) → NamesUpTo k ms → x.number ≡ k + 1 → NamesUpTo (k + 1) ((x, c) ∷ ms)
up_one k ms x c u e = (omega (arith, e), up_more k ms u)

module _ (sizes : List ℕ) where
  -- ---- names that are bound outside

  module _ (ns bs : Names) where
    abbrev Around : ℕ → List Kind → List Kind → Type 0
    Around d ks ks' = Extends ks' ks × Behind d ks (just_kinds bs)

    around_more : (d : ℕ) (ks ks' : List Kind) (c : Kind) → Around d ks ks' → Around (d + 1) (c ∷ ks) (c ∷ ks')
    around_more d ks ks' c r = (extends_more ks' ks c r.0, behind_more d ks (just_kinds bs) c r.1)

    as_bound_kind : (qs : Names) (d : ℕ) (y : Name) (c : Kind) (ks : List Kind) → Behind d ks (just_kinds qs) → kind_in (qs ++ ns) y ≡ Some c → IsBelow (kind_of sizes ns ks (as_bound (just_names qs) d y)) c
    as_bound_kind [] d y c ks h e = (c, e, below_self c)
    as_bound_kind (q ∷ qs) d y c ks h e = by (same_name y q.0) e (as_bound_kind qs (d + 1) y c ks (behind_tail d ks (just_kinds qs) q.1 h))
      where
        by : (b : Bool) → (if b then Some q.1 else kind_in (qs ++ ns) y) ≡ Some c → (kind_in (qs ++ ns) y ≡ Some c → IsBelow (kind_of sizes ns ks (as_bound (just_names qs) (d + 1) y)) c) →
            IsBelow (kind_of sizes ns ks (if b then tree.Bound d else as_bound (just_names qs) (d + 1) y)) c
        by true e r = (c, behind_head d ks (just_kinds qs) q.1 h ∙ e, below_self c)
        by false e r = r e

    stay_kind : (d j : ℕ) (c : Kind) (ks ks' : List Kind) → Around d ks ks' → slice_get ks' j ≡ Some c → IsBelow (kind_of sizes ns ks (bound_stays d j)) c
    stay_kind d j c ks ks' r e = (c, r.0 j c e, below_self c)

    pub closed_fits : (f : FormulaTree) → fits sizes (bs ++ ns) [] f ≡ true → fits sizes ns (just_kinds bs) (closed_over (just_names bs) f) ≡ true
    closed_fits f e = mapped_fits sizes ns (bs ++ ns) (as_bound (just_names bs)) bound_stays Around around_more
        (λ d y c ks ks' r h. as_bound_kind bs d y c ks r.1 h) stay_kind f 0 (just_kinds bs) [] ((λ j c h. cc), behind_none (just_kinds bs)) e

    pub closed_kind : (t : TermTree) (c : Kind) (d : ℕ) (ks ks' : List Kind) → Around d ks ks' → kind_of sizes (bs ++ ns) ks' t ≡ Some c →
        IsBelow (kind_of sizes ns ks (mapped_term (as_bound (just_names bs)) bound_stays d t)) c
    closed_kind t c d ks ks' r e = mapped_kind sizes ns (bs ++ ns) (as_bound (just_names bs)) bound_stays Around around_more
        (λ d y c ks ks' r h. as_bound_kind bs d y c ks r.1 h) stay_kind t d ks ks' c r e

  -- ---- branches

  module _ (ns : Names) where
    -- what is written to a name is of its kind
    abbrev pub WritesFit : Names → Assigned → Type 0
    WritesFit ms [] = Unit {0}
    WritesFit ms (w ∷ ws) = ((c : Kind) → kind_in ns w.0 ≡ Some c → IsBelow (kind_of sizes ms [] w.1) c) × WritesFit ms ws

    abbrev pub ItemsFit : Names → List Item → Assigned → Type 0
    ItemsFit ms [] ws = WritesFit ms ws
    ItemsFit ms (Bind x c ∷ is) ws = ItemsFit ((x, c) ∷ ms) is ws
    ItemsFit ms (Guard p ∷ is) ws = (fits sizes ms [] p ≡ true) × ItemsFit ms is ws

    assigned_kind : (bs : Names) (ws : Assigned) → WritesFit (bs ++ ns) ws → (d : ℕ) (y : Name) (c : Kind) (ks ks' : List Kind) → Around ns bs d ks ks' → kind_in ns y ≡ Some c →
        IsBelow (kind_of sizes ns ks (assigned (just_names bs) ws d y)) c
    assigned_kind bs [] w d y c ks ks' r e = (c, e, below_self c)
    assigned_kind bs (u ∷ ws) w d y c ks ks' r e = by (same_name y u.0) refl (assigned_kind bs ws w.1 d y c ks ks' r e)
      where
        by : (b : Bool) → same_name y u.0 ≡ b → IsBelow (kind_of sizes ns ks (assigned (just_names bs) ws d y)) c →
            IsBelow (kind_of sizes ns ks (if b then mapped_term (as_bound (just_names bs)) bound_stays d u.1 else assigned (just_names bs) ws d y)) c
        by true s q =
            let h = w.0 c (ap (kind_in ns) (sym (same_name_tells y u.0 s)) ∙ e) in
            below_then _ h.0 c (closed_kind ns bs u.1 h.0 d ks [] ((λ j k i. cc), r.1) h.1) h.2
        by false s q = q

    pub branch_fits : (bs : Names) (is : List Item) (ws : Assigned) (r : FormulaTree) → ItemsFit (bs ++ ns) is ws → fits sizes ns [] r ≡ true →
        fits sizes ns (just_kinds bs) (branch_formula (just_names bs) is ws r) ≡ true
    branch_fits bs [] ws r i e = mapped_fits sizes ns ns (assigned (just_names bs) ws) bound_stays (Around ns bs) (around_more ns bs)
        (λ d y c ks ks' a h. assigned_kind bs ws i d y c ks ks' a h) (stay_kind ns bs) r 0 (just_kinds bs) [] ((λ j c h. cc), behind_none (just_kinds bs)) e
    branch_fits bs (Bind x c ∷ is) ws r i e = branch_fits ((x, c) ∷ bs) is ws r i e
    branch_fits bs (Guard p ∷ is) ws r i e = and_from _ _ (closed_fits ns bs p i.0) (branch_fits bs is ws r i.1 e)

    -- the names with those that the items bind
    abbrev pub added : Names → List Item → Names
    added ms [] = ms
    added ms (Bind x c ∷ is) = added ((x, c) ∷ ms) is
    added ms (Guard p ∷ is) = added ms is

    wider_new : (k : ℕ) (ms : Names) (x : Name) (c : Kind) → NamesUpTo k ms → k < x.number → Wider ms ((x, c) ∷ ms)
    wider_new k ms x c u lt y d e = by (same_name y x) refl
      where
        by : (b : Bool) → same_name y x ≡ b → (if b then Some c else kind_in ms y) ≡ Some d
        by true s =
            let le = up_to sizes k ms y d u e in
            let same : y.number ≡ x.number = ap (λ (z : Name). z.number) (same_name_tells y x s) in
            absurd (omega (arith, le, lt, same))
        by false s = e

    wider_added : (k : ℕ) (ms : Names) (is : List Item) → NamesUpTo k ms → Numbered k is → Wider ms (added ms is)
    wider_added k ms [] u n y c e = e
    wider_added k ms (Bind x d ∷ is) u n y c e =
        wider_added (k + 1) ((x, d) ∷ ms) is (up_one k ms x d u n.0) n.1 y c (wider_new k ms x d u (omega (arith, n.0)) y c e)
    wider_added k ms (Guard p ∷ is) u n y c e = wider_added k ms is u n y c e

    up_added : (k : ℕ) (ms : Names) (is : List Item) → NamesUpTo k ms → Numbered k is → NamesUpTo (k + binds is) (added ms is)
    up_added k ms [] u n = subst (λ i. NamesUpTo i ms) (omega arith) u
    up_added k ms (Bind x d ∷ is) u n = subst (λ i. NamesUpTo i (added ((x, d) ∷ ms) is)) (omega arith) (up_added (k + 1) ((x, d) ∷ ms) is (up_one k ms x d u n.0) n.1)
    up_added k ms (Guard p ∷ is) u n = up_added k ms is u n

    writes_wider : (ms ms' : Names) (ws : Assigned) → Wider ms ms' → WritesFit ms ws → WritesFit ms' ws
    writes_wider ms ms' [] h w = tt
    writes_wider ms ms' (u ∷ ws) h w = (
      (λ c e. let q = w.0 c e in (q.0, kind_more sizes ms ms' h u.1 [] [] q.0 (λ j k i. i) q.1, q.2)),
      writes_wider ms ms' ws h w.1,
    )

    writes_both : (ms : Names) (ws us : Assigned) → WritesFit ms ws → WritesFit ms us → WritesFit ms (ws ++ us)
    writes_both ms [] us a b = b
    writes_both ms (w ∷ ws) us a b = (a.0, writes_both ms ws us a.1 b)

    writes_first : (k : ℕ) (ms : Names) (is : List Item) (ws us : Assigned) → NamesUpTo k ms → Numbered k is → WritesFit ms ws → ItemsFit ms is us → ItemsFit ms is (ws ++ us)
    writes_first k ms [] ws us u n a i = writes_both ms ws us a i
    writes_first k ms (Bind x c ∷ is) ws us u n a i =
        writes_first (k + 1) ((x, c) ∷ ms) is ws us (up_one k ms x c u n.0) n.1 (writes_wider ms ((x, c) ∷ ms) ws (wider_new k ms x c u (omega (arith, n.0))) a) i
    writes_first k ms (Guard p ∷ is) ws us u n a i = (i.0, writes_first k ms is ws us u n a i.1)

    items_joined : (k : ℕ) (ms : Names) (is js : List Item) (ws us : Assigned) → NamesUpTo k ms → Numbered k is → Numbered (k + binds is) js →
        ItemsFit ms is ws → ItemsFit (added ms is) js us → ItemsFit ms (is ++ js) (ws ++ us)
    items_joined k ms [] js ws us u n m i h = writes_first k ms js ws us u (subst (λ z. Numbered z js) (omega arith) m) i h
    items_joined k ms (Bind x c ∷ is) js ws us u n m i h =
        items_joined (k + 1) ((x, c) ∷ ms) is js ws us (up_one k ms x c u n.0) n.1 (subst (λ z. Numbered z js) (omega arith) m) i h
    items_joined k ms (Guard p ∷ is) js ws us u n m i h = (i.0, items_joined k ms is js ws us u n m i.1 h)

    -- the opened names have the kinds of the written ones
    abbrev pub Opens : Names → List Name → Scope → Type 0
    Opens ms scope inner = (y : Name) (c : Kind) → kind_in (kinds_in inner) y ≡ Some c → kind_in ms (opened_name scope y) ≡ Some c

    opened_fits : (ms : Names) (scope : List Name) (inner : Scope) → Opens ms scope inner → (f : FormulaTree) → fits sizes (kinds_in inner) [] f ≡ true → fits sizes ms [] (opened scope f) ≡ true
    opened_fits ms scope inner o f e = mapped_fits sizes ms (kinds_in inner) (opened_names scope) bound_stays (λ d ks ks'. Extends ks' ks) (λ d ks ks' c r. extends_more ks' ks c r)
        (λ d y c ks ks' r h. (c, o y c h, below_self c)) (λ d j c ks ks' r h. (c, r j c h, below_self c)) f 0 [] [] (λ j c h. h) e

    opened_kind : (ms : Names) (scope : List Name) (inner : Scope) → Opens ms scope inner → (t : TermTree) (c : Kind) → kind_of sizes (kinds_in inner) [] t ≡ Some c →
        IsBelow (kind_of sizes ms [] (opened_term scope t)) c
    opened_kind ms scope inner o t c e = mapped_kind sizes ms (kinds_in inner) (opened_names scope) bound_stays (λ d ks ks'. Extends ks' ks) (λ d ks ks' c r. extends_more ks' ks c r)
        (λ d y c ks ks' r h. (c, o y c h, below_self c)) (λ d j c ks ks' r h. (c, r j c h, below_self c)) t 0 [] [] c (λ j c h. h) e

    form_below : (f : Form) (k : Kind) → is_of_kind f k ≡ true → Below (kind_of_form f) k
    form_below (Number lo hi) kind.Integer e = refl
    form_below Truth kind.Truth e = refl
    form_below (Element j) (kind.Elem k) e = ap kind.Elem (eqb-true j k e)
    form_below (Numbers lo hi) (kind.SetOf base.Integer) e = refl
    form_below TruthSet (kind.SetOf base.Truth) e = refl
    form_below (Elements j) (kind.SetOf (base.Elem k)) e = ap (λ n. kind.SetOf (base.Elem n)) (eqb-true j k e)
    form_below Empty (kind.SetOf b) e = tt
    form_below Empty kind.EmptySet e = refl
    form_below f k e = cc

    opens_bound : (k : ℕ) (ms : Names) (scope : List Name) (inner : Scope) (z : Name) (f : Form) (c : Kind) → IsWritten z → kind_of_form f ≡ c → NamesUpTo k ms → Opens ms scope inner →
        Opens ((numbered z (k + 1), c) ∷ ms) (numbered z (k + 1) ∷ scope) ((z, f) ∷ inner)
    opens_bound k ms scope inner z f c zw fc u o y d e =
        subst (λ b. kind_in ((numbered z (k + 1), c) ∷ ms) (if b then numbered z (k + 1) else opened_name scope y) ≡ Some d) (sym (same_written y z (k + 1) zw)) (by (same_name y z) e)
      where
        x : Name
        x = numbered z (k + 1)

        by : (b : Bool) → (if b then Some (kind_of_form f) else kind_in (kinds_in inner) y) ≡ Some d → kind_in ((x, c) ∷ ms) (if b then x else opened_name scope y) ≡ Some d
        by true e = ap (λ b. if b then Some c else kind_in ms x) (same_name_self x) ∙ ap Some (sym fc) ∙ e
        by false e = wider_new k ms x c u (omega arith) (opened_name scope y) d (o y d e)

    abbrev Fine : ℕ → Names → Branch → Type 0
    Fine k ms b = Numbered k b.items × ItemsFit ms b.items b.writes

    module _ (targets : Names) (agree : (x : Name) (k c : Kind) → typed.kind_of_target targets x ≡ Some k → kind_in ns x ≡ Some c → k ≡ c) where
      mutual
        pub branches_fit : (s : SubstTree) (k : ℕ) (scope : List Name) (inner : Scope) (taken : List Name) (ms : Names) → TypedSubst sizes targets inner taken s →
            Opens ms scope inner → NamesUpTo k ms → EachOf (Fine k ms) (branches_from k scope s)
        branches_fit Skip k scope inner taken ms w o u = ((tt, tt), tt)
        branches_fit (Assign x e) k scope inner taken ms w o u =
            let p = some_and (typed.kind_of_target targets x) _ w in
            let f = as_kind sizes inner taken p.0 e p.2 in
            let q = some_and _ _ p.2.1 in
            let same : q.0 ≡ f.0 = same_Some q.0 f.0 (sym q.1 ∙ f.2) in
            let below = form_below f.0 p.0 (subst (λ z. is_of_kind z p.0 ≡ true) same q.2) in
            let made = opened_kind ms scope inner o e (kind_of_form f.0) f.1 in
            ((tt, ((λ c h. subst (IsBelow (kind_of sizes ms [] (opened_term scope e))) (agree x p.0 c p.1 h) (below_then _ (kind_of_form f.0) p.0 made below)), tt)), tt)
        branches_fit (Together a b) k scope inner taken ms w o u =
            (each_flat_map (Fine k ms) (λ p. map (joined_branch p) (branches_from (k + binds p.items) scope b)) (branches_from k scope a)).1
            (each_step (Fine k ms) (λ p. EachOf (Fine k ms) (map (joined_branch p) (branches_from (k + binds p.items) scope b))) (branches_from k scope a) (branches_fit a k scope inner taken ms w.0 o u)
            (λ p g. (each_map (Fine k ms) (joined_branch p) (branches_from (k + binds p.items) scope b)).1
            (each_step (Fine (k + binds p.items) (added ms p.items)) (λ q. Fine k ms (joined_branch p q)) (branches_from (k + binds p.items) scope b)
            (branches_fit b (k + binds p.items) scope inner taken (added ms p.items) w.1 (λ y c e. wider_added k ms p.items u g.0 (opened_name scope y) c (o y c e)) (up_added k ms p.items u g.0))
            (λ q h. (numbered_append k p.items q.items g.0 h.0, items_joined k ms p.items q.items p.writes q.writes u g.0 h.0 g.1 h.1)))))
        branches_fit (Choice ss) k scope inner taken ms w o u = sides_fit ss k scope inner taken ms w o u
        branches_fit (If p a b) k scope inner taken ms w o u =
            let g = opened_fits ms scope inner o p (formula_fits sizes inner taken p [] w.0) in
            (each_append (Fine k ms) (map (guarded (opened scope p)) (branches_from k scope a)) (map (guarded (tree.Not (opened scope p))) (branches_from k scope b))).1 (
              (each_map (Fine k ms) (guarded (opened scope p)) (branches_from k scope a)).1
                  (each_step (Fine k ms) (λ q. Fine k ms (guarded (opened scope p) q)) (branches_from k scope a) (branches_fit a k scope inner taken ms w.1 o u) (λ q h. (h.0, (g, h.1)))),
              (each_map (Fine k ms) (guarded (tree.Not (opened scope p))) (branches_from k scope b)).1
                  (each_step (Fine k ms) (λ q. Fine k ms (guarded (tree.Not (opened scope p)) q)) (branches_from k scope b) (branches_fit b k scope inner taken ms w.2 o u) (λ q h. (h.0, (g, h.1)))),
            )
        branches_fit (AnyOf z d p s) k scope inner taken ms w o u =
            let x = numbered z (k + 1) in
            let c = domains.kind_of_domain d in
            let ms' = (x, c) ∷ ms in
            let inner' = (z, form_of_domain d) ∷ inner in
            let o' = opens_bound k ms scope inner z (form_of_domain d) c w.0.0 (domain_kind d) u o in
            let g = opened_fits ms' (x ∷ scope) inner' o' p (formula_fits sizes inner' (z ∷ taken) p [] w.3) in
            (each_map (Fine k ms) (made.bound_branch x c (opened (x ∷ scope) p)) (branches_from (k + 1) (x ∷ scope) s)).1
            (each_step (Fine (k + 1) ms') (λ q. Fine k ms (made.bound_branch x c (opened (x ∷ scope) p) q)) (branches_from (k + 1) (x ∷ scope) s)
            (branches_fit s (k + 1) (x ∷ scope) inner' (z ∷ taken) ms' w.4 o' (up_one k ms x c u refl)) (λ q h. ((refl, h.0), (g, h.1))))

        pub sides_fit : (ss : SubstTrees) (k : ℕ) (scope : List Name) (inner : Scope) (taken : List Name) (ms : Names) → TypedSides sizes targets inner taken ss →
            Opens ms scope inner → NamesUpTo k ms → EachOf (Fine k ms) (branches_of_each k scope ss)
        sides_fit End k scope inner taken ms w o u = tt
        sides_fit (More s ss) k scope inner taken ms w o u =
            (each_append (Fine k ms) (branches_from k scope s) (branches_of_each k scope ss)).1 (branches_fit s k scope inner taken ms w.0 o u, sides_fit ss k scope inner taken ms w.1 o u)

    and_fits : (f : FormulaTree) (bs : List Branch) (r : FormulaTree) → fits sizes ns [] f ≡ true → EachOf (Fine 0 ns) bs → fits sizes ns [] r ≡ true → fits sizes ns [] (and_branches f bs r) ≡ true
    and_fits f [] r h i e = h
    and_fits f (b ∷ bs) r h i e = and_fits (tree.And f (branch_formula [] b.items b.writes r)) bs r (and_from _ _ h (branch_fits [] b.items b.writes r i.0.1 e)) i.1 e

    pub all_fit : (bs : List Branch) (r : FormulaTree) → EachOf (Fine 0 ns) bs → fits sizes ns [] r ≡ true → fits sizes ns [] (all_branches bs r) ≡ true
    all_fit [] r i e = refl
    all_fit (b ∷ bs) r i e = and_fits (branch_formula [] b.items b.writes r) bs r (branch_fits [] b.items b.writes r i.0.1 e) i.1 e

    -- ---- liveness

    unless : (b : Bool) (ks : List Kind) (f : FormulaTree) → fits sizes ns ks f ≡ true → fits sizes ns ks (if b then tree.True else f) ≡ true
    unless true ks f h = refl
    unless false ks f h = h

    mutual
      pub live_fits : (targets : Names) (s : SubstTree) (bs : Names) (inner : Scope) (taken : List Name) → TypedSubst sizes targets inner taken s → kinds_in inner ≡ bs ++ ns →
          fits sizes ns (just_kinds bs) (live_under (just_names bs) s) ≡ true
      live_fits targets Skip bs inner taken w e = refl
      live_fits targets (Assign x t) bs inner taken w e = refl
      live_fits targets (Together a b) bs inner taken w e = and_from _ _ (live_fits targets a bs inner taken w.0 e) (live_fits targets b bs inner taken w.1 e)
      live_fits targets (Choice ss) bs inner taken w e = live_each_fits targets ss bs inner taken w e
      live_fits targets (If p a b) bs inner taken w e =
          let g = closed_fits ns bs p (subst (λ ms. fits sizes ms [] p ≡ true) e (formula_fits sizes inner taken p [] w.0)) in
          and_from _ _ (and_from _ _ g (live_fits targets a bs inner taken w.1 e)) (and_from _ _ g (live_fits targets b bs inner taken w.2 e))
      live_fits targets (AnyOf z d p s) bs inner taken w e =
          let c = domains.kind_of_domain d in
          let bs' = (z, c) ∷ bs in
          let e' : kinds_in ((z, form_of_domain d) ∷ inner) ≡ bs' ++ ns = ap₂ (λ k ms. (z, k) ∷ ms) (domain_kind d) e in
          let g = closed_fits ns bs' p (subst (λ ms. fits sizes ms [] p ≡ true) e' (formula_fits sizes ((z, form_of_domain d) ∷ inner) (z ∷ taken) p [] w.3)) in
          unless (is_choice z d p s) (just_kinds bs) _ (and_from _ _ g (and_from _ _ g (live_fits targets s bs' ((z, form_of_domain d) ∷ inner) (z ∷ taken) w.4 e')))

      pub live_each_fits : (targets : Names) (ss : SubstTrees) (bs : Names) (inner : Scope) (taken : List Name) → TypedSides sizes targets inner taken ss → kinds_in inner ≡ bs ++ ns →
          fits sizes ns (just_kinds bs) (live_each (just_names bs) ss) ≡ true
      live_each_fits targets End bs inner taken w e = refl
      live_each_fits targets (More s End) bs inner taken w e = live_fits targets s bs inner taken w.0 e
      live_each_fits targets (More s (More t ss)) bs inner taken w e = and_from _ _ (live_fits targets s bs inner taken w.0 e) (live_each_fits targets (More t ss) bs inner taken w.1 e)
