-- The formulas of plain texts have no loose bound variable.
use Rattle.std.proofs.Common.{◌≡◌, ℕ, ◌+◌, ◌≤◌, Bool, true, false, List, [], ◌∷◌, ◌++◌, map, length, Option, Some, None, slice_get, refl, subst, arith, if◌then◌else◌}
use Rattle.cb_term.specs.declared.name.Name.{Name}
use Rattle.cb_term.specs.declared.kind.Domain.{Domain}
use Rattle.cb_term.specs.declared.kind.Domain.TheVariants as domain
use Rattle.cb_term.specs.Names.{same_name}
use Rattle.cb_term.specs.Tree as tree
use Rattle.cb_term.specs.Tree.{TermTree, Var, Bound, FormulaTree, And, Implies}
use Rattle.cb_term.specs.Closed.{IsClosedTerm, IsClosed}
use Rattle.cb_term.specs.Change.{mapped_term, bound_stays}
use Rattle.cb_spec.specs.declared.event.Event.TheVariants as event
use Rattle.cb_spec.specs.declared.system.Channel.{Channel}
use Rattle.cb_spec.specs.declared.system.Controller.{Controller}
use Rattle.cb_spec.specs.declared.system.Declared.{Declared}
use Rattle.cb_spec.specs.declared.system.Machine.{Machine}
use Rattle.cb_spec.specs.declared.system.Operation.{Operation}
use Rattle.cb_spec.specs.declared.system.System.{System}
use Rattle.cb_spec.specs.ProcessTree as process
use Rattle.cb_spec.specs.ProcessTree.{ProcessTree, Stop, Prefix, Internal}
use Rattle.cb_spec.specs.SubstTree.{SubstTree, Skip, Assign, Together, Choice, If, AnyOf, SubstTrees, End, More}
use Rattle.cb_spec.specs.Domains.{kind_of_domain, typing}
use Rattle.cb_spec.specs.Bound.{names, result_names, only, is_among}
use Rattle.cb_spec.specs.States.{IsAt}
use Rattle.cb_obligations.specs.Written.{IsPlain, AsWritten, AsWrittenEach}
use Rattle.cb_obligations.specs.Branches.{Item, Bind, Guard, Assigned, Branch, numbered, opened_names, opened_term, opened, binds, guarded, bound_branch, joined_branch, branches_from, branches_of_each, branches}
use Rattle.cb_obligations.specs.Transform.{as_bound, closed_over, assigned, branch_formula, and_branches, all_branches}
use Rattle.cb_obligations.specs.Owed.{for_all}
use Rattle.cb_obligations.proofs.Runs.{EachOf, each_append, each_map, each_flat_map, each_step}
use Rattle.cb_conditions.specs.Reading.{itself, with_terms, terms_at, given, given_each}
use Rattle.cb_conditions.specs.Conditions.{if_there, listed, invariants_of, for_found, typings, declared_as, vars, guarantee, assumption, argued_items, outcome, argued_each, wc}
use Rattle.cb_conditions.specs.Fitting.{ArePlain, PlainNote, PlainProcess, PlainController}
use Rattle.cb_conditions.proofs.Trees.{closed_mapped_term, closed_mapped}
use Rattle.cb_conditions.proofs.Readings.{AreClosed, closed_itself, closed_with, closed_read_each, closed_replaced}

-- ---- under the names that are bound around

abbrev Around : ℕ → ℕ → ℕ → ℕ → Type 0
Around many m n k = (m ≤ k) × (k + many ≤ n)

around_more : (many m n k : ℕ) → Around many m n k → Around many (m + 1) (n + 1) (k + 1)
around_more many m n k r = (omega (arith, r.0), omega (arith, r.1))

as_bound_closed : (xs : List Name) (k n : ℕ) (y : Name) → k + length xs ≤ n → IsClosedTerm n (as_bound xs k y)
as_bound_closed [] k n y le = tt
as_bound_closed (x ∷ xs) k n y le = by (same_name y x) (as_bound_closed xs (k + 1) n y (omega (arith, le)))
  where
    by : (b : Bool) → IsClosedTerm n (as_bound xs (k + 1) y) → IsClosedTerm n (if b then Bound k else as_bound xs (k + 1) y)
    by true h = omega (arith, le)
    by false h = h

pub closed_over_closed : (xs : List Name) (f : FormulaTree) → IsClosed 0 f → IsClosed (length xs) (closed_over xs f)
closed_over_closed xs f c = closed_mapped (as_bound xs) bound_stays (Around (length xs)) (around_more (length xs))
    (λ m n k y r. as_bound_closed xs k n y r.1) (λ m n k i r lt. omega (arith, r.0, r.1, lt)) f 0 (length xs) 0 (omega arith, omega arith) c

pub for_all_closed : (xs : List Name) (ds : List Declared) (f : FormulaTree) → IsClosed 0 f → IsClosed (length xs) (for_all xs ds f)
for_all_closed xs [] f c = closed_over_closed xs f c
for_all_closed xs (d ∷ ds) f c = subst (λ n. IsClosed n (for_all (d.name ∷ xs) ds f)) (omega arith) (for_all_closed (d.name ∷ xs) ds f c)

abbrev pub GuardsClosed : List Item → Type 0
GuardsClosed [] = Unit {0}
GuardsClosed (Bind x kind ∷ is) = GuardsClosed is
GuardsClosed (Guard g ∷ is) = IsClosed 0 g × GuardsClosed is

assigned_closed : (xs : List Name) (ws : Assigned) → AreClosed ws → (k n : ℕ) (y : Name) → k + length xs ≤ n → IsClosedTerm n (assigned xs ws k y)
assigned_closed xs [] c k n y le = tt
assigned_closed xs (w ∷ ws) c k n y le = by (same_name y w.0) (assigned_closed xs ws c.1 k n y le)
  where
    by : (b : Bool) → IsClosedTerm n (assigned xs ws k y) → IsClosedTerm n (if b then mapped_term (as_bound xs) bound_stays k w.1 else assigned xs ws k y)
    by true h = closed_mapped_term (as_bound xs) bound_stays (Around (length xs)) (around_more (length xs))
        (λ m n k y r. as_bound_closed xs k n y r.1) (λ m n k i r lt. omega (arith, r.0, r.1, lt)) w.1 0 n k (omega arith, le) c.0
    by false h = h

pub branch_closed : (xs : List Name) (is : List Item) (ws : Assigned) (r : FormulaTree) → GuardsClosed is → AreClosed ws → IsClosed 0 r → IsClosed (length xs) (branch_formula xs is ws r)
branch_closed xs [] ws r g cw cr = closed_mapped (assigned xs ws) bound_stays (Around (length xs)) (around_more (length xs))
    (λ m n k y e. assigned_closed xs ws cw k n y e.1) (λ m n k i e lt. omega (arith, e.0, e.1, lt)) r 0 (length xs) 0 (omega arith, omega arith) cr
branch_closed xs (Bind x kind ∷ is) ws r g cw cr = subst (λ n. IsClosed n (branch_formula (x ∷ xs) is ws r)) (omega arith) (branch_closed (x ∷ xs) is ws r g cw cr)
branch_closed xs (Guard p ∷ is) ws r g cw cr = (closed_over_closed xs p g.0, branch_closed xs is ws r g.1 cw cr)

abbrev pub ClosedBranch : Branch → Type 0
ClosedBranch b = GuardsClosed b.items × AreClosed b.writes

pub and_closed : (f : FormulaTree) (bs : List Branch) (r : FormulaTree) → IsClosed 0 f → EachOf ClosedBranch bs → IsClosed 0 r → IsClosed 0 (and_branches f bs r)
and_closed f [] r cf cb cr = cf
and_closed f (b ∷ bs) r cf cb cr = and_closed (And f (branch_formula [] b.items b.writes r)) bs r (cf, branch_closed [] b.items b.writes r cb.0.0 cb.0.1 cr) cb.1 cr

pub all_closed : (bs : List Branch) (r : FormulaTree) → EachOf ClosedBranch bs → IsClosed 0 r → IsClosed 0 (all_branches bs r)
all_closed [] r cb cr = tt
all_closed (b ∷ bs) r cb cr = and_closed (branch_formula [] b.items b.writes r) bs r (branch_closed [] b.items b.writes r cb.0.0 cb.0.1 cr) cb.1 cr

-- ---- the branches of a substitution

abbrev Low : ℕ → ℕ → ℕ → Type 0
Low m n k = m ≤ n

opened_closed : (scope : List Name) (f : FormulaTree) → IsClosed 0 f → IsClosed 0 (opened scope f)
opened_closed scope f c = closed_mapped (opened_names scope) bound_stays Low (λ m n k r. omega (arith, r)) (λ m n k y r. tt) (λ m n k i r lt. omega (arith, r, lt)) f 0 0 0 (omega arith) c

opened_term_closed : (scope : List Name) (t : TermTree) → IsClosedTerm 0 t → IsClosedTerm 0 (opened_term scope t)
opened_term_closed scope t c = closed_mapped_term (opened_names scope) bound_stays Low (λ m n k r. omega (arith, r)) (λ m n k y r. tt) (λ m n k i r lt. omega (arith, r, lt)) t 0 0 0 (omega arith) c

guards_both : (is js : List Item) → GuardsClosed is → GuardsClosed js → GuardsClosed (is ++ js)
guards_both [] js a b = b
guards_both (Bind x kind ∷ is) js a b = guards_both is js a b
guards_both (Guard g ∷ is) js a b = (a.0, guards_both is js a.1 b)

closed_both : (ws us : Assigned) → AreClosed ws → AreClosed us → AreClosed (ws ++ us)
closed_both [] us a b = b
closed_both (w ∷ ws) us a b = (a.0, closed_both ws us a.1 b)

mutual
  pub branches_closed : (s : SubstTree) (k : ℕ) (scope : List Name) → AsWritten s → EachOf ClosedBranch (branches_from k scope s)
  branches_closed Skip k scope w = ((tt, tt), tt)
  branches_closed (Assign x e) k scope w = ((tt, (opened_term_closed scope e w.1.1, tt)), tt)
  branches_closed (Together a b) k scope w =
      (each_flat_map ClosedBranch (λ p. map (joined_branch p) (branches_from (k + binds p.items) scope b)) (branches_from k scope a)).1
      (each_step ClosedBranch (λ p. EachOf ClosedBranch (map (joined_branch p) (branches_from (k + binds p.items) scope b))) (branches_from k scope a) (branches_closed a k scope w.0)
      (λ p g. (each_map ClosedBranch (joined_branch p) (branches_from (k + binds p.items) scope b)).1
      (each_step ClosedBranch (λ q. ClosedBranch (joined_branch p q)) (branches_from (k + binds p.items) scope b) (branches_closed b (k + binds p.items) scope w.1)
      (λ q h. (guards_both p.items q.items g.0 h.0, closed_both p.writes q.writes g.1 h.1)))))
  branches_closed (Choice ss) k scope w = branches_closed_each ss k scope w
  branches_closed (If p a b) k scope w =
      (each_append ClosedBranch (map (guarded (opened scope p)) (branches_from k scope a)) (map (guarded (tree.Not (opened scope p))) (branches_from k scope b))).1 (
        (each_map ClosedBranch (guarded (opened scope p)) (branches_from k scope a)).1
            (each_step ClosedBranch (λ q. ClosedBranch (guarded (opened scope p) q)) (branches_from k scope a) (branches_closed a k scope w.1.0)
            (λ q h. ((opened_closed scope p w.0.1, h.0), h.1))),
        (each_map ClosedBranch (guarded (tree.Not (opened scope p))) (branches_from k scope b)).1
            (each_step ClosedBranch (λ q. ClosedBranch (guarded (tree.Not (opened scope p)) q)) (branches_from k scope b) (branches_closed b k scope w.1.1)
            (λ q h. ((opened_closed scope p w.0.1, h.0), h.1))),
      )
  branches_closed (AnyOf z domain p s) k scope w =
      let x = numbered z (k + 1) in
      (each_map ClosedBranch (bound_branch x (kind_of_domain domain) (opened (x ∷ scope) p)) (branches_from (k + 1) (x ∷ scope) s)).1
      (each_step ClosedBranch (λ q. ClosedBranch (bound_branch x (kind_of_domain domain) (opened (x ∷ scope) p) q)) (branches_from (k + 1) (x ∷ scope) s)
      (branches_closed s (k + 1) (x ∷ scope) w.1.1) (λ q h. ((opened_closed (x ∷ scope) p w.1.0.1, h.0), h.1)))

  branches_closed_each : (ss : SubstTrees) (k : ℕ) (scope : List Name) → AsWrittenEach ss → EachOf ClosedBranch (branches_of_each k scope ss)
  branches_closed_each End k scope w = tt
  branches_closed_each (More s ss) k scope w =
      (each_append ClosedBranch (branches_from k scope s) (branches_of_each k scope ss)).1 (branches_closed s k scope w.0, branches_closed_each ss k scope w.1)

-- ---- with arguments, and what is left

pub plain_closed : (xs : List Name) (ts : List TermTree) → ArePlain ts → AreClosed (terms_at xs ts)
plain_closed [] ts p = tt
plain_closed (x ∷ xs) [] p = (tt, plain_closed xs [] tt)
plain_closed (x ∷ xs) (t ∷ ts) p = (p.0.1, plain_closed xs ts p.1)

given_closed : (ws : Assigned) → AreClosed ws → (x : Name) → IsClosedTerm 0 (given ws x)
given_closed [] c x = tt
given_closed (w ∷ ws) c x = by (same_name x w.0) (given_closed ws c.1 x)
  where
    by : (b : Bool) → IsClosedTerm 0 (given ws x) → IsClosedTerm 0 (if b then w.1 else given ws x)
    by true h = c.0
    by false h = h

results_closed : (ws : Assigned) → AreClosed ws → (xs rs : List Name) → AreClosed (terms_at xs (given_each ws rs))
results_closed ws c [] rs = tt
results_closed ws c (x ∷ xs) [] = (tt, results_closed ws c xs [])
results_closed ws c (x ∷ xs) (r ∷ rs) = (given_closed ws c r, results_closed ws c xs rs)

only_closed : (xs : List Name) (ws : Assigned) → AreClosed ws → AreClosed (only xs ws)
only_closed xs [] c = tt
only_closed xs (w ∷ ws) c = by (is_among w.0 xs) (only_closed xs ws c.1)
  where
    by : (b : Bool) → AreClosed (only xs ws) → AreClosed (if b then w ∷ only xs ws else only xs ws)
    by true h = (c.0, h)
    by false h = h

pub outcome_closed : (m : Machine) (o : Operation) (xs : List Name) (ws : Assigned) → AreClosed ws → AreClosed (outcome m o xs ws)
outcome_closed m o xs ws c = closed_both (terms_at xs (given_each ws (result_names o.results))) (only (names m.variables) ws) (results_closed ws c xs (result_names o.results)) (only_closed (names m.variables) ws c)

pub argued_closed : (args : Assigned) → AreClosed args → (is : List Item) → GuardsClosed is → GuardsClosed (argued_items args is)
argued_closed args ca [] c = tt
argued_closed args ca (Bind x kind ∷ is) c = argued_closed args ca is c
argued_closed args ca (Guard g ∷ is) c = (closed_replaced args ca g c.0, argued_closed args ca is c.1)

pub argued_each_closed : (args : Assigned) → AreClosed args → (m : Machine) (o : Operation) (xs : List Name) (bs : List Branch) → EachOf ClosedBranch bs → EachOf ClosedBranch (argued_each args m o xs bs)
argued_each_closed args ca m o xs [] c = tt
argued_each_closed args ca m o xs (b ∷ bs) c = (
  (argued_closed args ca b.items c.0.0, closed_read_each (with_terms args itself) (closed_with itself closed_itself args ca) (outcome m o xs b.writes) (outcome_closed m o xs b.writes c.0.1)),
  argued_each_closed args ca m o xs bs c.1,
)

-- ---- the formula of a process

pub typing_closed : (x : Name) (d : Domain) → IsClosed 0 (typing (Var x) d)
typing_closed x (domain.Range lo hi) = (tt, (tt, tt))
typing_closed x domain.Truth = (tt, tt)
typing_closed x (domain.Elems set) = (tt, tt)
typing_closed x (domain.Subsets lo hi) = (tt, (tt, tt))
typing_closed x (domain.ElemSubsets set) = (tt, tt)

pub typings_closed : (ds : List Declared) → IsClosed 0 (typings ds)
typings_closed [] = tt
typings_closed (d ∷ ds) = (typing_closed d.name d.domain, typings_closed ds)

pub vars_closed : (xs ys : List Name) → AreClosed (terms_at xs (vars ys))
vars_closed [] ys = tt
vars_closed (x ∷ xs) [] = (tt, vars_closed xs [])
vars_closed (x ∷ xs) (y ∷ ys) = (tt, vars_closed xs ys)

pub assumption_closed : (ch : Channel) (xs : List Name) (note : Option FormulaTree) → IsPlain ch.assertion → PlainNote note → IsClosed 0 (assumption ch xs note)
assumption_closed ch xs None a n = closed_replaced (terms_at (names ch.values) (vars xs)) (vars_closed (names ch.values) xs) ch.assertion a.1
assumption_closed ch xs (Some f) a n = (typings_closed (declared_as xs ch.values), n.1)

guarantee_closed : (ch : Channel) (note : Option FormulaTree) → IsPlain ch.assertion → PlainNote note → IsClosed 0 (guarantee ch note)
guarantee_closed ch None a n = a.1
guarantee_closed ch (Some f) a n = n.1

found_closed : {A : Type 0} (o : Option A) (f : A → FormulaTree) → ((a : A) → o ≡ Some a → IsClosed 0 (f a)) → IsClosed 0 (for_found o f)
found_closed None f h = tt
found_closed (Some a) f h = h a refl

-- ---- the machines of a controller

abbrev pub EachMachine : (Machine → Type 0) → List Machine → Type 0
EachMachine P [] = Unit {0}
EachMachine P (m ∷ ms) = P m × EachMachine P ms

pub all_listed : (P : Machine → Type 0) (ms : List Machine) (ks : List ℕ) → ((k : ℕ) (m : Machine) → IsAt ms k m → P m) → EachMachine P (listed ms ks)
all_listed P ms [] h = tt
all_listed P ms (k ∷ ks) h = by (slice_get ms k) refl (all_listed P ms ks h)
  where
    by : (o : Option Machine) → slice_get ms k ≡ o → EachMachine P (listed ms ks) → EachMachine P (if_there o (listed ms ks))
    by None e r = r
    by (Some m) e r = (h k m e, r)

pub invariants_closed : (ms : List Machine) → EachMachine (λ m. IsPlain m.invariant) ms → IsClosed 0 (invariants_of ms)
invariants_closed [] h = tt
invariants_closed (m ∷ ms) h = (h.0.1, invariants_closed ms h.1)

module _ (y : System) (c : Controller) (fine : PlainController y c) where
  pub wc_closed : (p : ProcessTree) → PlainProcess p → IsClosed 0 (wc y c p)
  wc_closed Stop h = tt
  wc_closed process.Skip h = tt
  wc_closed (process.Call k ts) h = found_closed (slice_get c.definitions k) _
      (λ d e. closed_replaced (terms_at (names d.params) ts) (plain_closed (names d.params) ts h) (And (typings d.params) d.invariant) (typings_closed d.params, (fine.definitions k d e).invariant.1))
  wc_closed (Prefix (event.Output k ts note) p) h = (
    found_closed (slice_get y.channels k) _
        (λ ch e. closed_replaced (terms_at (names ch.values) ts) (plain_closed (names ch.values) ts h.0) (guarantee ch note) (guarantee_closed ch note (fine.channels k ch e).1 h.1)),
    wc_closed p h.2,
  )
  wc_closed (Prefix (event.Input k xs note) p) h = found_closed (slice_get y.channels k) _
      (λ ch e. for_all_closed [] (declared_as xs ch.values) (Implies (assumption ch xs note) (wc y c p)) (assumption_closed ch xs note (fine.channels k ch e).1 h.1, wc_closed p h.2))
  wc_closed (Prefix (event.Call k j ts xs) p) h = found_closed (slice_get y.machines k) _
      (λ m em. found_closed (slice_get m.operations j) _
      (λ o eo.
      let fm = fine.machines k m em in
      let fo = fm.operations j o eo in
      let args = terms_at (names o.params) ts in
      let ca = plain_closed (names o.params) ts h.0 in (
        closed_replaced args ca o.pre fo.pre.1,
        all_closed (argued_each args m o xs (branches o.body)) (Implies m.invariant (wc y c p)) (argued_each_closed args ca m o xs (branches o.body) (branches_closed o.body 0 [] fo.body))
            (fm.invariant.1, wc_closed p h.2),
      )))
  wc_closed (process.Choice p q) h = (wc_closed p h.0, wc_closed q h.1)
  wc_closed (Internal p q) h = (wc_closed p h.0, wc_closed q h.1)
  wc_closed (process.If f p q) h = ((h.0.1, wc_closed p h.1), (h.0.1, wc_closed q h.2))
