-- The branches of a substitution have its runs.
use Rattle.std.proofs.Common.{◌≡◌, ℕ, ◌+◌, ◌≤◌, ◌==◌, Bool, true, false, ◌&&◌, List, [], ◌∷◌, ◌++◌, map, flat_map, inl, inr, ◌↔◌, refl, sym, ap, ◌∙◌, subst, arith, if◌then◌else◌, bytes_eq, slice_index_or}
use Rattle.cb_term.specs.declared.name.Name.{Name}
use Rattle.cb_term.specs.declared.kind.Kind.{Kind}
use Rattle.cb_term.specs.declared.value.Value.{Value}
use Rattle.cb_term.specs.Names.{same_name}
use Rattle.cb_term.specs.Tree as tree
use Rattle.cb_term.specs.Tree.{TermTree, FormulaTree}
use Rattle.cb_term.specs.Values.{Look, nothing, set_at, IsOf}
use Rattle.cb_term.specs.Holds.{Meets, Holds, IsValue}
use Rattle.cb_term.specs.Change.{bound_stays}
use Rattle.cb_term.proofs.HoldsLemmas.{IsStable}
use Rattle.cb_term.proofs.ValueLemmas.{value_stable}
use Rattle.cb_term.proofs.Equivalences.{stays, then_iff, not_iff, and_iff, implies_iff, each_iff}
use Rattle.cb_term.proofs.ClosedLemmas.{closed_holds, value_closed}
use Rattle.cb_term.proofs.ChangeLemmas.{mapped_meets, mapped_holds}
use Rattle.cb_spec.specs.SubstTree.{SubstTree, Skip, Assign, Together, Choice, If, AnyOf, SubstTrees, End, More}
use Rattle.cb_spec.specs.Domains.{kind_of_domain}
use Rattle.cb_spec.specs.Stores.{Writes}
use Rattle.cb_spec.specs.Runs.{Runs, RunsOne, Fits, FitEach}
use Rattle.cb_spec.proofs.RunLemmas.{sides_apart}
use Rattle.cb_obligations.specs.Written.{EachName, EachNameOfTerm, IsWritten, IsPlain, IsPlainTerm, AsWritten, AsWrittenEach}
use Rattle.cb_obligations.specs.Branches.{Item, Bind, Guard, Assigned, Branch, numbered, opened_name, opened_names, opened_term, opened, binds, guarded, bound_branch, joined_branch, branches_from, branches_of_each}
use Rattle.cb_obligations.proofs.NameLemmas.{agree_meets, agree_holds}
use Rattle.cb_obligations.proofs.Stores.{set_here, set_agrees, AgreeUpTo}
use Rattle.cb_obligations.proofs.Formulas.{ValuesAre, Under, SteadyTerm, Steady, SteadyItems, SteadyWrites, is_in, kind_in}

pub pi_iff : {X : Type 0} {A B : X → Type 0} → ((x : X) → A x ↔ B x) → ((x : X) → A x) ↔ ((x : X) → B x)
pi_iff p = ((λ h x. (p x).0 (h x)), (λ h x. (p x).1 (h x)))

pub iff_back : {A B : Type 0} → (A ↔ B) → B ↔ A
iff_back p = (p.1, p.0)

-- ---- lists of branches

abbrev pub EachOf : (Branch → Type 0) → List Branch → Type 0
EachOf Q [] = Unit {0}
EachOf Q (b ∷ bs) = Q b × EachOf Q bs

pub each_append : (Q : Branch → Type 0) (as' bs : List Branch) → EachOf Q (as' ++ bs) ↔ (EachOf Q as' × EachOf Q bs)
each_append Q [] bs = ((λ h. (tt, h)), (λ h. h.1))
each_append Q (a ∷ as') bs =
    let i = each_append Q as' bs in
    ((λ h. ((h.0, (i.0 h.1).0), (i.0 h.1).1)), (λ h. (h.0.0, i.1 (h.0.1, h.1))))

pub each_map : (Q : Branch → Type 0) (f : Branch → Branch) (bs : List Branch) → EachOf Q (map f bs) ↔ EachOf (λ b. Q (f b)) bs
each_map Q f [] = stays
each_map Q f (b ∷ bs) = and_iff stays (each_map Q f bs)

pub each_flat_map : (Q : Branch → Type 0) (f : Branch → List Branch) (bs : List Branch) → EachOf Q (flat_map f bs) ↔ EachOf (λ b. EachOf Q (f b)) bs
each_flat_map Q f [] = stays
each_flat_map Q f (b ∷ bs) = then_iff (each_append Q (f b) (flat_map f bs)) (and_iff stays (each_flat_map Q f bs))

-- branch by branch, by a fact of each
pub each_with : (F Q R : Branch → Type 0) (bs : List Branch) → EachOf F bs → ((b : Branch) → F b → Q b ↔ R b) → EachOf Q bs ↔ EachOf R bs
each_with F Q R [] f h = stays
each_with F Q R (b ∷ bs) f h = and_iff (h b f.0) (each_with F Q R bs f.1 h)

-- what each has, each has when it is changed
pub each_step : (F Q : Branch → Type 0) (bs : List Branch) → EachOf F bs → ((b : Branch) → F b → Q b) → EachOf Q bs
each_step F Q [] f h = tt
each_step F Q (b ∷ bs) f h = (h b f.0, each_step F Q bs f.1 h)

each_unit : (bs : List Branch) → EachOf (λ b. Unit {0}) bs
each_unit [] = tt
each_unit (b ∷ bs) = (tt, each_unit bs)

each_pull : {X : Type 0} (G : Branch → X → Type 0) (bs : List Branch) → EachOf (λ b. (x : X) → G b x) bs ↔ ((x : X) → EachOf (λ b. G b x) bs)
each_pull G [] = ((λ h x. tt), (λ h. tt))
each_pull G (b ∷ bs) =
    let i = each_pull G bs in
    ((λ h x. (h.0 x, i.0 h.1 x)), (λ h. ((λ x. (h x).0), i.1 (λ x. (h x).1))))

-- ---- the names that a branch binds

-- the j-th binding has the number j, counted from k
abbrev pub Numbered : ℕ → List Item → Type 0
Numbered k [] = Unit {0}
Numbered k (Bind x kind ∷ is) = (x.number ≡ k + 1) × Numbered (k + 1) is
Numbered k (Guard p ∷ is) = Numbered k is

pub numbered_append : (k : ℕ) (is js : List Item) → Numbered k is → Numbered (k + binds is) js → Numbered k (is ++ js)
numbered_append k [] js n m = subst (λ i. Numbered i js) (omega arith) m
numbered_append k (Bind x kind ∷ is) js n m = (n.0, numbered_append (k + 1) is js n.1 (subst (λ i. Numbered i js) (omega arith) m))
numbered_append k (Guard p ∷ is) js n m = numbered_append k is js n m

pub binds_append : (is js : List Item) → binds (is ++ js) ≡ binds is + binds js
binds_append [] js = omega arith
binds_append (Bind x kind ∷ is) js = omega (arith, binds_append is js)
binds_append (Guard p ∷ is) js = binds_append is js

module _ (sizes : List ℕ) where
  steady_append : (is js : List Item) → SteadyItems sizes is → SteadyItems sizes js → SteadyItems sizes (is ++ js)
  steady_append [] js a b = b
  steady_append (Bind x kind ∷ is) js a b = steady_append is js a b
  steady_append (Guard p ∷ is) js a b = (a.0, steady_append is js a.1 b)

  steady_writes : (ws us : Assigned) → SteadyWrites sizes ws → SteadyWrites sizes us → SteadyWrites sizes (ws ++ us)
  steady_writes [] us a b = b
  steady_writes (w ∷ ws) us a b = (a.0, steady_writes ws us a.1 b)

  -- what is bound later is nothing to the terms
  abbrev pub Local : ℕ → Assigned → Type 0
  Local n [] = Unit {0}
  Local n (w ∷ ws) = ((l l' : Look) (v : Value) → AgreeUpTo n l l' → IsValue sizes l w.1 [] v → IsValue sizes l' w.1 [] v) × Local n ws

  pub local_more : (n m : ℕ) (ws : Assigned) → n ≤ m → Local n ws → Local m ws
  local_more n m [] le h = tt
  local_more n m (w ∷ ws) le h = ((λ l l' v a. h.0 l l' v (λ y k. a y (omega (arith, k, le)))), local_more n m ws le h.1)

  local_append : (n : ℕ) (ws us : Assigned) → Local n ws → Local n us → Local n (ws ++ us)
  local_append n [] us a b = b
  local_append n (w ∷ ws) us a b = (a.0, local_append n ws us a.1 b)

  pub values_later : (n : ℕ) (ws : Assigned) (l l' : Look) (d : Writes) → Local n ws → AgreeUpTo n l l' → ValuesAre sizes ws l d → ValuesAre sizes ws l' d
  values_later n [] l l' [] h a va = va
  values_later n [] l l' (p ∷ d) h a va = va
  values_later n (w ∷ ws) l l' [] h a va = va
  values_later n (w ∷ ws) l l' (p ∷ d) h a va = (va.0, h.0 l l' p.1 a va.1, values_later n ws l l' d h.1 a va.2)

  pub values_join : (ws us : Assigned) (l : Look) (d e : Writes) → ValuesAre sizes ws l d → ValuesAre sizes us l e → ValuesAre sizes (ws ++ us) l (d ++ e)
  values_join [] us l [] e a b = b
  values_join [] us l (p ∷ d) e a b = absurd a
  values_join (w ∷ ws) us l [] e a b = absurd a
  values_join (w ∷ ws) us l (p ∷ d) e a b = (a.0, a.1, values_join ws us l d e a.2 b)

  values_split : (ws us : Assigned) (l : Look) (d : Writes) (C : Type 0) → ValuesAre sizes (ws ++ us) l d →
      ((da db : Writes) → ValuesAre sizes ws l da → ValuesAre sizes us l db → da ++ db ≡ d → C) → C
  values_split [] us l d C va go = go [] d tt va refl
  values_split (w ∷ ws) us l [] C va go = absurd va
  values_split (w ∷ ws) us l (p ∷ d) C va go =
      values_split ws us l d C va.2 (λ da db a b e. go (p ∷ da) db (va.0, va.1, a) b (ap (λ z. p ∷ z) e))

  -- ---- the store that a branch leads to

  under_iff : (k : ℕ) (is : List Item) (l : Look) (P Q : Look → Type 0) → Numbered k is →
      ((l' : Look) → AgreeUpTo k l l' → P l' ↔ Q l') → Under sizes is l P ↔ Under sizes is l Q
  under_iff k [] l P Q n h = h l (λ y le. refl)
  under_iff k (Bind x kind ∷ is) l P Q n h =
      each_iff (λ v. under_iff (k + 1) is (set_at l x v) P Q n.1
      (λ l' a. h l' (λ y le. a y (omega (arith, le)) ∙ set_agrees k l x v (omega (arith, n.0)) y le)))
  under_iff k (Guard p ∷ is) l P Q n h = implies_iff stays (under_iff k is l P Q n h)

  under_append : (is js : List Item) (l : Look) (P : Look → Type 0) → Under sizes (is ++ js) l P ↔ Under sizes is l (λ l'. Under sizes js l' P)
  under_append [] js l P = stays
  under_append (Bind x kind ∷ is) js l P = each_iff (λ v. under_append is js (set_at l x v) P)
  under_append (Guard p ∷ is) js l P = implies_iff stays (under_append is js l P)

  under_pull : {X : Type 0} (is : List Item) (l : Look) (P : X → Look → Type 0) → ((x : X) → Under sizes is l (P x)) ↔ Under sizes is l (λ l'. (x : X) → P x l')
  under_pull [] l P = stays
  under_pull (Bind y kind ∷ is) l P = (
    (λ h v i. (under_pull is (set_at l y v) P).0 (λ x. h x v i)),
    (λ h x v i. (under_pull is (set_at l y v) P).1 (h v i) x),
  )
  under_pull (Guard p ∷ is) l P = ((λ h g. (under_pull is l P).0 (λ x. h x g)), (λ h x g. (under_pull is l P).1 (h g) x))

  under_each : (is : List Item) (l : Look) (G : Branch → Look → Type 0) (bs : List Branch) →
      EachOf (λ b. Under sizes is l (G b)) bs ↔ Under sizes is l (λ l'. EachOf (λ b. G b l') bs)
  under_each [] l G bs = stays
  under_each (Bind x kind ∷ is) l G bs = then_iff (each_pull (λ b v. IsOf sizes kind v → Under sizes is (set_at l x v) (G b)) bs)
      (pi_iff (λ v. then_iff (each_pull (λ b (o : IsOf sizes kind v). Under sizes is (set_at l x v) (G b)) bs) (pi_iff (λ o. under_each is (set_at l x v) G bs))))
  under_each (Guard p ∷ is) l G bs = then_iff (each_pull (λ b (h : Holds sizes l p []). Under sizes is l (G b)) bs) (pi_iff (λ h. under_each is l G bs))

  -- ---- written names, and the opened ones that stand for them

  abbrev pub ScopeUpTo : ℕ → List Name → Type 0
  ScopeUpTo k scope = (y : Name) → IsWritten y → (opened_name scope y).number ≤ k

  abbrev pub Agree : List Name → Look → Look → Type 0
  Agree scope look l = (y : Name) → IsWritten y → l (opened_name scope y) ≡ look y

  same_written : (y z : Name) (n : ℕ) → IsWritten z → same_name y (numbered (numbered z n) 0) ≡ same_name y z
  same_written y z n w = ap (λ i. bytes_eq y.text z.text && (y.number == i)) (sym w)

  scope_bound : (k : ℕ) (scope : List Name) (z : Name) → ScopeUpTo k scope → ScopeUpTo (k + 1) (numbered z (k + 1) ∷ scope)
  scope_bound k scope z su y w = by_test (same_name y (numbered (numbered z (k + 1)) 0)) (su y w)
    where
      by_test : (b : Bool) → (opened_name scope y).number ≤ k → (if b then numbered z (k + 1) else opened_name scope y).number ≤ k + 1
      by_test true le = omega arith
      by_test false le = omega (arith, le)

  agree_bound : (k : ℕ) (scope : List Name) (look l : Look) (z : Name) (v : Value) → IsWritten z → ScopeUpTo k scope → Agree scope look l →
      Agree (numbered z (k + 1) ∷ scope) (set_at look z v) (set_at l (numbered z (k + 1)) v)
  agree_bound k scope look l z v zw su ag y w =
      subst (λ b. set_at l (numbered z (k + 1)) v (if b then numbered z (k + 1) else opened_name scope y) ≡ (if same_name y z then v else look y))
      (sym (same_written y z (k + 1) zw)) (by_test (same_name y z))
    where
      by_test : (b : Bool) → set_at l (numbered z (k + 1)) v (if b then numbered z (k + 1) else opened_name scope y) ≡ (if b then v else look y)
      by_test true = set_here l (numbered z (k + 1)) v
      by_test false = set_agrees k l (numbered z (k + 1)) v (omega arith) (opened_name scope y) (su y w) ∙ ag y w

  agree_later : (k : ℕ) (scope : List Name) (look l l' : Look) → ScopeUpTo k scope → AgreeUpTo k l l' → Agree scope look l → Agree scope look l'
  agree_later k scope look l l' su a ag y w = a (opened_name scope y) (su y w) ∙ ag y w

  module _ (scope : List Name) (look l : Look) (ag : Agree scope look l) where
    pub opened_meets : (t : TermTree) (env : List Value) (P : Value → Type 0) → ((v : Value) → IsStable (P v)) → EachNameOfTerm IsWritten t →
        Meets sizes l (opened_term scope t) env P ↔ Meets sizes look t env P
    opened_meets t env P st w = then_iff
        (mapped_meets sizes l (λ y. l (opened_name scope y)) (opened_names scope) bound_stays (λ k e e'. e ≡ e') (λ k e e' v r. ap (λ z. v ∷ z) r)
        (λ k y e e' r. refl) (λ k j e e' r. ap (λ z. slice_index_or z j nothing) r) t 0 env env P refl st)
        (agree_meets sizes (λ y. l (opened_name scope y)) look IsWritten ag t env P w)

    pub opened_holds : (f : FormulaTree) (env : List Value) → EachName IsWritten f → Holds sizes l (opened scope f) env ↔ Holds sizes look f env
    opened_holds f env w = then_iff
        (mapped_holds sizes l (λ y. l (opened_name scope y)) (opened_names scope) bound_stays (λ k e e'. e ≡ e') (λ k e e' v r. ap (λ z. v ∷ z) r)
        (λ k y e e' r. refl) (λ k j e e' r. ap (λ z. slice_index_or z j nothing) r) ⊥ f 0 env env refl)
        (agree_holds sizes (λ y. l (opened_name scope y)) look IsWritten ag ⊥ f env w)

  opened_value : (scope : List Name) (look l : Look) (t : TermTree) (v : Value) → Agree scope look l → EachNameOfTerm IsWritten t →
      IsValue sizes l (opened_term scope t) [] v ↔ IsValue sizes look t [] v
  opened_value scope look l t v ag w = opened_meets scope look l ag t [] (λ u. u ≡ v) (λ u. value_stable u v) w

  abbrev through : List Name → Look → Look
  through scope l = λ y. l (opened_name scope y)

  steady_opened : (scope : List Name) (f : FormulaTree) → IsPlain f → Steady sizes (opened scope f)
  steady_opened scope f w l env =
      let h : (e : List Value) → Holds sizes l (opened scope f) e ↔ Holds sizes (through scope l) f e =
      λ e. opened_holds scope (through scope l) l (λ y w. refl) f e w.0 in
      let c = closed_holds sizes (through scope l) ⊥ f 0 env [] (λ j lt. absurd (omega (arith, lt))) w.1 in
      then_iff (then_iff (h env) c) ((h []).1, (h []).0)

  steady_opened_term : (scope : List Name) (t : TermTree) → IsPlainTerm t → SteadyTerm sizes (opened_term scope t)
  steady_opened_term scope t w l env v is =
      let h : (e : List Value) → Meets sizes l (opened_term scope t) e (λ u. u ≡ v) ↔ Meets sizes (through scope l) t e (λ u. u ≡ v) =
      λ e. opened_meets scope (through scope l) l (λ y w. refl) t e (λ u. u ≡ v) (λ u. value_stable u v) w.0 in
      (h env).1 (value_closed sizes (through scope l) t v w.1 ((h []).0 is) env)

  local_opened : (k : ℕ) (scope : List Name) (t : TermTree) → ScopeUpTo k scope → IsPlainTerm t →
      (l l' : Look) (v : Value) → AgreeUpTo k l l' → IsValue sizes l (opened_term scope t) [] v → IsValue sizes l' (opened_term scope t) [] v
  local_opened k scope t su w l l' v a is =
      (opened_value scope (through scope l) l' t v (λ y yw. a (opened_name scope y) (su y yw)) w.0).1
      ((opened_value scope (through scope l) l t v (λ y yw. refl) w.0).0 is)

  -- ---- each branch of a substitution

  pub record Good (k : ℕ) (b : Branch) : Type 0 where
    pub numbers : Numbered k b.items
    pub local : Local (k + binds b.items) b.writes
    pub steady : SteadyItems sizes b.items
    pub steady_terms : SteadyWrites sizes b.writes

  good_joined : (k : ℕ) (a b : Branch) → Good k a → Good (k + binds a.items) b → Good k (joined_branch a b)
  good_joined k a b g h = record {
    numbers = numbered_append k a.items b.items g.numbers h.numbers;
    local = local_append (k + binds (a.items ++ b.items)) a.writes b.writes
        (local_more (k + binds a.items) (k + binds (a.items ++ b.items)) a.writes (omega (arith, binds_append a.items b.items)) g.local)
        (local_more (k + binds a.items + binds b.items) (k + binds (a.items ++ b.items)) b.writes (omega (arith, binds_append a.items b.items)) h.local);
    steady = steady_append a.items b.items g.steady h.steady;
    steady_terms = steady_writes a.writes b.writes g.steady_terms h.steady_terms;
  }

  mutual
    pub good_branches : (s : SubstTree) (k : ℕ) (scope : List Name) → AsWritten s → ScopeUpTo k scope → EachOf (Good k) (branches_from k scope s)
    good_branches Skip k scope w su = (record { numbers = tt; local = tt; steady = tt; steady_terms = tt }, tt)
    good_branches (Assign x e) k scope w su = (
      record {
        numbers = tt;
        local = (local_opened (k + 0) scope e (λ y yw. omega (arith, su y yw)) w.1, tt);
        steady = tt;
        steady_terms = (steady_opened_term scope e w.1, tt);
      },
      tt,
    )
    good_branches (Together a b) k scope w su =
        (each_flat_map (Good k) (λ p. map (joined_branch p) (branches_from (k + binds p.items) scope b)) (branches_from k scope a)).1
        (each_step (Good k) (λ p. EachOf (Good k) (map (joined_branch p) (branches_from (k + binds p.items) scope b))) (branches_from k scope a) (good_branches a k scope w.0 su)
        (λ p g. (each_map (Good k) (joined_branch p) (branches_from (k + binds p.items) scope b)).1
        (each_step (Good (k + binds p.items)) (λ q. Good k (joined_branch p q)) (branches_from (k + binds p.items) scope b)
        (good_branches b (k + binds p.items) scope w.1 (λ y yw. omega (arith, su y yw))) (λ q h. good_joined k p q g h))))
    good_branches (Choice ss) k scope w su = good_each ss k scope w su
    good_branches (If p a b) k scope w su =
        (each_append (Good k) (map (guarded (opened scope p)) (branches_from k scope a)) (map (guarded (tree.Not (opened scope p))) (branches_from k scope b))).1 (
          (each_map (Good k) (guarded (opened scope p)) (branches_from k scope a)).1
              (each_step (Good k) (λ b. Good k (guarded (opened scope p) b)) (branches_from k scope a) (good_branches a k scope w.1.0 su)
              (λ b g. record { numbers = g.numbers; local = g.local; steady = (steady_opened scope p w.0, g.steady); steady_terms = g.steady_terms })),
          (each_map (Good k) (guarded (tree.Not (opened scope p))) (branches_from k scope b)).1
              (each_step (Good k) (λ b. Good k (guarded (tree.Not (opened scope p)) b)) (branches_from k scope b) (good_branches b k scope w.1.1 su)
              (λ b g. record { numbers = g.numbers; local = g.local; steady = ((λ l env. not_iff (steady_opened scope p w.0 l env)), g.steady); steady_terms = g.steady_terms })),
        )
    good_branches (AnyOf z domain p s) k scope w su =
        let x = numbered z (k + 1) in
        let inner = branches_from (k + 1) (x ∷ scope) s in
        (each_map (Good k) (bound_branch x (kind_of_domain domain) (opened (x ∷ scope) p)) inner).1
        (each_step (Good (k + 1)) (λ b. Good k (bound_branch x (kind_of_domain domain) (opened (x ∷ scope) p) b)) inner (good_branches s (k + 1) (x ∷ scope) w.1.1 (scope_bound k scope z su))
        (λ b g. record {
          numbers = (refl, g.numbers);
          local = local_more (k + 1 + binds b.items) (k + (binds b.items + 1)) b.writes (omega arith) g.local;
          steady = (steady_opened (x ∷ scope) p w.1.0, g.steady);
          steady_terms = g.steady_terms;
        }))

    good_each : (ss : SubstTrees) (k : ℕ) (scope : List Name) → AsWrittenEach ss → ScopeUpTo k scope → EachOf (Good k) (branches_of_each k scope ss)
    good_each End k scope w su = tt
    good_each (More s ss) k scope w su = (each_append (Good k) (branches_from k scope s) (branches_of_each k scope ss)).1 (good_branches s k scope w.0 su, good_each ss k scope w.1 su)

  -- ---- the branches and the runs

  -- after each run of the branch
  abbrev pub Meaning : Branch → Look → (Writes → Type 0) → Type 0
  Meaning b l K = Under sizes b.items l (λ l'. (d : Writes) → ValuesAre sizes b.writes l' d → K d)

  -- after each run of the substitution
  abbrev pub AfterRuns : SubstTree → Look → (Writes → Type 0) → Type 0
  AfterRuns s look K = (d : Writes) → Runs sizes s look d → K d

  each_skip : (K : Writes → Type 0) → ((d : Writes) → d ≡ [] → K d) → (d : Writes) → ValuesAre sizes [] (λ y. nothing) d → K d
  each_skip K h [] va = h [] refl
  each_skip K h (p ∷ d) va = absurd va

  each_assign : (x : Name) (t : TermTree) (l : Look) (K : Writes → Type 0) → ((v : Value) → IsValue sizes l t [] v → K ((x, v) ∷ [])) →
      (d : Writes) → ValuesAre sizes ((x, t) ∷ []) l d → K d
  each_assign x t l K h [] va = absurd va
  each_assign x t l K h (p ∷ []) va = subst (λ y. K ((y, p.1) ∷ [])) va.0 (h p.1 va.1)
  each_assign x t l K h (p ∷ q ∷ d) va = absurd va.2

  guarded_each : (p : FormulaTree) (l : Look) (K : Writes → Type 0) (bs : List Branch) →
      EachOf (λ b. Meaning b l K) (map (guarded p) bs) ↔ (Holds sizes l p [] → EachOf (λ b. Meaning b l K) bs)
  guarded_each p l K bs = then_iff (each_map (λ b. Meaning b l K) (guarded p) bs) (each_pull (λ b (h : Holds sizes l p []). Meaning b l K) bs)

  bound_each : (x : Name) (kind : Kind) (p : FormulaTree) (l : Look) (K : Writes → Type 0) (bs : List Branch) →
      EachOf (λ b. Meaning b l K) (map (bound_branch x kind p) bs)
      ↔ ((v : Value) → IsOf sizes kind v → Holds sizes (set_at l x v) p [] → EachOf (λ b. Meaning b (set_at l x v) K) bs)
  bound_each x kind p l K bs = then_iff (each_map (λ b. Meaning b l K) (bound_branch x kind p) bs)
      (then_iff (each_pull (λ b v. IsOf sizes kind v → Holds sizes (set_at l x v) p [] → Meaning b (set_at l x v) K) bs)
      (pi_iff (λ v. then_iff (each_pull (λ b (o : IsOf sizes kind v). Holds sizes (set_at l x v) p [] → Meaning b (set_at l x v) K) bs)
      (pi_iff (λ o. each_pull (λ b (h : Holds sizes (set_at l x v) p []). Meaning b (set_at l x v) K) bs)))))

  -- the second part's branches, once the first part has been run up to the store l
  joined_each : (a : Branch) (l : Look) (K : Writes → Type 0) (m : ℕ) (bs : List Branch) → Local m a.writes → EachOf (Good m) bs →
      EachOf (λ b. Under sizes b.items l (λ l'. (d : Writes) → ValuesAre sizes (a.writes ++ b.writes) l' d → K d)) bs
      ↔ ((da : Writes) → ValuesAre sizes a.writes l da → EachOf (λ b. Meaning b l (λ db. K (da ++ db))) bs)
  joined_each a l K m bs lo g = then_iff
      (each_with (Good m) (λ b. Under sizes b.items l (λ l'. (d : Writes) → ValuesAre sizes (a.writes ++ b.writes) l' d → K d))
      (λ b. (da : Writes) → ValuesAre sizes a.writes l da → Meaning b l (λ db. K (da ++ db))) bs g by_branch)
      (then_iff (each_pull (λ b da. ValuesAre sizes a.writes l da → Meaning b l (λ db. K (da ++ db))) bs)
      (pi_iff (λ da. each_pull (λ b (va : ValuesAre sizes a.writes l da). Meaning b l (λ db. K (da ++ db))) bs)))
    where
      by_branch : (b : Branch) → Good m b →
          Under sizes b.items l (λ l'. (d : Writes) → ValuesAre sizes (a.writes ++ b.writes) l' d → K d)
          ↔ ((da : Writes) → ValuesAre sizes a.writes l da → Meaning b l (λ db. K (da ++ db)))
      by_branch b h = then_iff
          (under_iff m b.items l (λ l'. (d : Writes) → ValuesAre sizes (a.writes ++ b.writes) l' d → K d)
          (λ l'. (da : Writes) → ValuesAre sizes a.writes l da → (db : Writes) → ValuesAre sizes b.writes l' db → K (da ++ db)) h.numbers
          (λ l' ag. (
            (λ k da va db vb. k (da ++ db) (values_join a.writes b.writes l' da db (values_later m a.writes l l' da lo ag va) vb)),
            (λ k d vd. values_split a.writes b.writes l' d (K d) vd
                (λ da db va vb e. subst K e (k da (values_later m a.writes l' l da lo (λ y le. sym (ag y le)) va) db vb))),
          )))
          (then_iff (iff_back (under_pull b.items l (λ da l'. ValuesAre sizes a.writes l da → (db : Writes) → ValuesAre sizes b.writes l' db → K (da ++ db))))
          (pi_iff (λ da. iff_back (under_pull b.items l (λ (va : ValuesAre sizes a.writes l da) l'. (db : Writes) → ValuesAre sizes b.writes l' db → K (da ++ db))))))

  together_each : (a : Branch) (l : Look) (K : Writes → Type 0) (k : ℕ) (b : SubstTree) (bs : List Branch) (look : Look) →
      Good k a → EachOf (Good (k + binds a.items)) bs →
      ((l' : Look) → AgreeUpTo k l l' → (J : Writes → Type 0) → EachOf (λ q. Meaning q l' J) bs ↔ AfterRuns b look J) →
      EachOf (λ q. Meaning q l K) (map (joined_branch a) bs) ↔ Meaning a l (λ da. AfterRuns b look (λ db. K (da ++ db)))
  together_each a l K k b bs look g gs h = then_iff (each_map (λ q. Meaning q l K) (joined_branch a) bs)
      (then_iff (each_with (λ q. Unit {0}) (λ q. Meaning (joined_branch a q) l K)
      (λ q. Under sizes a.items l (λ l'. Under sizes q.items l' (λ l2. (d : Writes) → ValuesAre sizes (a.writes ++ q.writes) l2 d → K d))) bs (each_unit bs)
      (λ q u. under_append a.items q.items l (λ l2. (d : Writes) → ValuesAre sizes (a.writes ++ q.writes) l2 d → K d)))
      (then_iff (under_each a.items l (λ q l'. Under sizes q.items l' (λ l2. (d : Writes) → ValuesAre sizes (a.writes ++ q.writes) l2 d → K d)) bs)
      (under_iff k a.items l
      (λ l'. EachOf (λ q. Under sizes q.items l' (λ l2. (d : Writes) → ValuesAre sizes (a.writes ++ q.writes) l2 d → K d)) bs)
      (λ l'. (da : Writes) → ValuesAre sizes a.writes l' da → AfterRuns b look (λ db. K (da ++ db))) g.numbers
      (λ l' ag. then_iff (joined_each a l' K (k + binds a.items) bs g.local gs)
      (pi_iff (λ da. pi_iff (λ va. h l' ag (λ db. K (da ++ db)))))))))

  mutual
    pub each_run : (s : SubstTree) (k : ℕ) (scope : List Name) (look l : Look) (K : Writes → Type 0) → AsWritten s → Fits sizes s → ScopeUpTo k scope → Agree scope look l →
        EachOf (λ b. Meaning b l K) (branches_from k scope s) ↔ AfterRuns s look K
    each_run Skip k scope look l K w f su ag = (
      (λ h d r. subst K (sym r) (h.0 [] tt)),
      (λ h. (each_skip K h, tt)),
    )
    each_run (Assign x e) k scope look l K w f su ag = (
      (λ h d r. subst K (sym r.1.1) (h.0 ((x, r.0) ∷ []) (refl, (opened_value scope look l e r.0 ag w.1.0).1 r.1.0, tt))),
      (λ h. (each_assign x (opened_term scope e) l K (λ v is. h ((x, v) ∷ []) (v, ((opened_value scope look l e v ag w.1.0).0 is, refl))), tt)),
    )
    each_run (Together a b) k scope look l K w f su ag = then_iff
        (each_flat_map (λ q. Meaning q l K) (λ p. map (joined_branch p) (branches_from (k + binds p.items) scope b)) (branches_from k scope a))
        (then_iff
        (each_with (Good k) (λ p. EachOf (λ q. Meaning q l K) (map (joined_branch p) (branches_from (k + binds p.items) scope b)))
        (λ p. Meaning p l (λ da. AfterRuns b look (λ db. K (da ++ db)))) (branches_from k scope a) (good_branches a k scope w.0 su)
        (λ p g. together_each p l K k b (branches_from (k + binds p.items) scope b) look g
        (good_branches b (k + binds p.items) scope w.1 (λ y yw. omega (arith, su y yw)))
        (λ l' ag' J. each_run b (k + binds p.items) scope look l' J w.1 f.2 (λ y yw. omega (arith, su y yw)) (agree_later k scope look l l' su ag' ag))))
        (then_iff (each_run a k scope look l (λ da. AfterRuns b look (λ db. K (da ++ db))) w.0 f.1 su ag) (
          (λ h d r. subst K (sym r.1.1.3) (h r.0 r.1.1.0 r.1.0 r.1.1.1)),
          (λ h da ra db rb. h (da ++ db) (da, (db, (ra, rb, sides_apart sizes a b look da db f ra rb, refl)))),
        )))
    each_run (Choice End) k scope look l K w f su ag = absurd f
    each_run (Choice (More s ss)) k scope look l K w f su ag = each_run_of (More s ss) k scope look l K w f su ag
    each_run (If p a b) k scope look l K w f su ag =
        let g = opened_holds scope look l ag p [] w.0.0 in
        then_iff (each_append (λ q. Meaning q l K) (map (guarded (opened scope p)) (branches_from k scope a)) (map (guarded (tree.Not (opened scope p))) (branches_from k scope b)))
        (then_iff (and_iff
        (then_iff (guarded_each (opened scope p) l K (branches_from k scope a)) (implies_iff g (each_run a k scope look l K w.1.0 f.0 su ag)))
        (then_iff (guarded_each (tree.Not (opened scope p)) l K (branches_from k scope b)) (implies_iff (not_iff g) (each_run b k scope look l K w.1.1 f.1 su ag)))) (
          (λ h d r. elim r [ inl t ↦ h.0 t.0 d t.1 | inr t ↦ h.1 t.0 d t.1 ]),
          (λ h. ((λ t d r. h d (inl (t, r))), (λ t d r. h d (inr (t, r))))),
        ))
    each_run (AnyOf z domain p s) k scope look l K w f su ag =
        let x = numbered z (k + 1) in
        let su' = scope_bound k scope z su in
        let ag' : (v : Value) → Agree (x ∷ scope) (set_at look z v) (set_at l x v) = λ v. agree_bound k scope look l z v w.0 su ag in
        let g : (v : Value) → Holds sizes (set_at l x v) (opened (x ∷ scope) p) [] ↔ Holds sizes (set_at look z v) p [] =
        λ v. opened_holds (x ∷ scope) (set_at look z v) (set_at l x v) (ag' v) p [] w.1.0.0 in
        then_iff (bound_each x (kind_of_domain domain) (opened (x ∷ scope) p) l K (branches_from (k + 1) (x ∷ scope) s))
        (then_iff (pi_iff (λ v. pi_iff (λ o. implies_iff (g v) (each_run s (k + 1) (x ∷ scope) (set_at look z v) (set_at l x v) K w.1.1 f.2 su' (ag' v))))) (
          (λ h d r. h r.0 (kind_in sizes z domain look r.0 r.1.0) r.1.1 d r.1.2),
          (λ h v o hp d r. h d (v, (is_in sizes z domain p look v f.0 o hp, hp, r))),
        ))

    each_run_of : (ss : SubstTrees) (k : ℕ) (scope : List Name) (look l : Look) (K : Writes → Type 0) → AsWrittenEach ss → FitEach sizes ss → ScopeUpTo k scope → Agree scope look l →
        EachOf (λ b. Meaning b l K) (branches_of_each k scope ss) ↔ ((d : Writes) → RunsOne sizes ss look d → K d)
    each_run_of End k scope look l K w f su ag = ((λ h d r. absurd r), (λ h. tt))
    each_run_of (More s ss) k scope look l K w f su ag = then_iff
        (each_append (λ q. Meaning q l K) (branches_from k scope s) (branches_of_each k scope ss))
        (then_iff (and_iff (each_run s k scope look l K w.0 f.0 su ag) (each_run_of ss k scope look l K w.1 f.1 su ag)) (
          (λ h d r. elim r [ inl t ↦ h.0 d t | inr t ↦ h.1 d t ]),
          (λ h. ((λ d r. h d (inl r)), (λ d r. h d (inr r)))),
        ))
