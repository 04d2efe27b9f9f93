-- The formulas that are made of written names have written names alone.
use Rattle.std.proofs.Common.{ℕ, ◌+◌, Bool, true, false, List, [], ◌∷◌, ◌++◌, map, ◌⊎◌, inl, inr, IsTrue, refl, sym, subst, if◌then◌else◌, true≢false}
use Rattle.cb_term.specs.declared.name.Name.{Name}
use Rattle.cb_term.specs.Names.{same_name}
use Rattle.cb_term.specs.Tree as tree
use Rattle.cb_term.specs.Tree.{TermTree, Var, Bound, Num, Truth, Elem, Bin, Neg, Card, Listed, Elems, Truths, Test, TermTrees, FormulaTree, True, False, Rel, Not, And, Or, Implies, Iff, Every, Exist}
use Rattle.cb_term.specs.Change.{mapped_term, mapped_terms, mapped_formula, bound_stays}
use Rattle.cb_term.proofs.ValueLemmas.{same_name_self}
use Rattle.cb_spec.specs.Domains.{kind_of_domain}
use Rattle.cb_spec.specs.SubstTree.{SubstTree, Skip, Assign, Together, Choice, If, AnyOf, SubstTrees, End, More}
use Rattle.cb_obligations.specs.Written.{EachNameOfTerm, EachNameOfTerms, EachName, IsWritten, AsWritten, AsWrittenEach}
use Rattle.cb_obligations.specs.Branches as made
use Rattle.cb_obligations.specs.Branches.{Item, Bind, Guard, Assigned, Branch, numbered, opened_name, opened_names, opened_term, opened, binds, guarded, joined_branch, branches_from, branches_of_each, branches}
use Rattle.cb_obligations.specs.Transform.{as_bound, closed_over, assigned, branch_formula, and_branches, all_branches, transformed, is_choice, live_under, live_each}
use Rattle.cb_obligations.proofs.NameLemmas.{weaken_term, each_name_weaken}
use Rattle.cb_obligations.proofs.Runs.{EachOf, each_append, each_map, each_flat_map, each_step}

module _ (These Those : Name → Type 0) (names : ℕ → Name → TermTree) (bounds : ℕ → ℕ → TermTree)
    (name_in : (k : ℕ) (y : Name) → Those y → EachNameOfTerm These (names k y)) (bound_in : (k j : ℕ) → EachNameOfTerm These (bounds k j)) where
  mutual
    pub moved_names_of_term : (t : TermTree) (k : ℕ) → EachNameOfTerm Those t → EachNameOfTerm These (mapped_term names bounds k t)
    moved_names_of_term (Var y) k h = name_in k y h
    moved_names_of_term (Bound j) k h = bound_in k j
    moved_names_of_term (Bin s a b) k h = (moved_names_of_term a k h.0, moved_names_of_term b k h.1)
    moved_names_of_term (Neg a) k h = moved_names_of_term a k h
    moved_names_of_term (Card a) k h = moved_names_of_term a k h
    moved_names_of_term (Listed ts) k h = moved_names_of_terms ts k h
    moved_names_of_term (Test f) k h = moved_names f k h
    moved_names_of_term t k h = tt

    pub moved_names_of_terms : (ts : TermTrees) (k : ℕ) → EachNameOfTerms Those ts → EachNameOfTerms These (mapped_terms names bounds k ts)
    moved_names_of_terms tree.End k h = tt
    moved_names_of_terms (tree.More a ts) k h = (moved_names_of_term a k h.0, moved_names_of_terms ts k h.1)

    pub moved_names : (f : FormulaTree) (k : ℕ) → EachName Those f → EachName These (mapped_formula names bounds k f)
    moved_names (Rel s a b) k h = (moved_names_of_term a k h.0, moved_names_of_term b k h.1)
    moved_names (Not f) k h = moved_names f k h
    moved_names (And f g) k h = (moved_names f k h.0, moved_names g k h.1)
    moved_names (Or f g) k h = (moved_names f k h.0, moved_names g k h.1)
    moved_names (Implies f g) k h = (moved_names f k h.0, moved_names g k h.1)
    moved_names (Iff f g) k h = (moved_names f k h.0, moved_names g k h.1)
    moved_names (Every x kind f) k h = moved_names f (k + 1) h
    moved_names (Exist x kind f) k h = moved_names f (k + 1) h
    moved_names f k h = tt

abbrev pub is_among : List Name → Name → Bool
is_among [] y = false
is_among (x ∷ xs) y = if same_name y x then true else is_among xs y

-- written, or bound
abbrev pub Known : List Name → Name → Type 0
Known xs y = IsWritten y ⊎ IsTrue (is_among xs y)

as_bound_names : (xs : List Name) (k : ℕ) (y : Name) → Known xs y → EachNameOfTerm IsWritten (as_bound xs k y)
as_bound_names [] k y (inl w) = w
as_bound_names [] k y (inr e) = absurd (true≢false (sym e))
as_bound_names (x ∷ xs) k y h = by_test (same_name y x) (as_bound_names xs (k + 1) y) h
  where
    by_test : (b : Bool) → (Known xs y → EachNameOfTerm IsWritten (as_bound xs (k + 1) y)) →
        (IsWritten y ⊎ IsTrue (if b then true else is_among xs y)) → EachNameOfTerm IsWritten (if b then Bound k else as_bound xs (k + 1) y)
    by_test true go h = tt
    by_test false go h = go h

pub closed_names : (xs : List Name) (f : FormulaTree) → EachName (Known xs) f → EachName IsWritten (closed_over xs f)
closed_names xs f h = moved_names IsWritten (Known xs) (as_bound xs) bound_stays (as_bound_names xs) (λ k j. tt) f 0 h

pub written_known : (xs : List Name) (f : FormulaTree) → EachName IsWritten f → EachName (Known xs) f
written_known xs f h = each_name_weaken IsWritten (Known xs) (λ y w. inl w) f h

mutual
  pub live_names : (s : SubstTree) (xs : List Name) → AsWritten s → EachName IsWritten (live_under xs s)
  live_names Skip xs w = tt
  live_names (Assign x e) xs w = tt
  live_names (Together a b) xs w = (live_names a xs w.0, live_names b xs w.1)
  live_names (Choice ss) xs w = live_each_names ss xs w
  live_names (If p a b) xs w =
      let c = closed_names xs p (written_known xs p w.0.0) in
      ((c, live_names a xs w.1.0), (c, live_names b xs w.1.1))
  live_names (AnyOf z domain p s) xs w =
      let c = closed_names (z ∷ xs) p (written_known (z ∷ xs) p w.1.0.0) in
      elim (is_choice z domain p s) as (λ b. EachName IsWritten (if b then True else And (Exist z (kind_of_domain domain) (closed_over (z ∷ xs) p))
      (Every z (kind_of_domain domain) (Implies (closed_over (z ∷ xs) p) (live_under (z ∷ xs) s))))) [
        | true ↦ tt
        | false ↦ (c, (c, live_names s (z ∷ xs) w.1.1))
      ]

  live_each_names : (ss : SubstTrees) (xs : List Name) → AsWrittenEach ss → EachName IsWritten (live_each xs ss)
  live_each_names End xs w = tt
  live_each_names (More s End) xs w = live_names s xs w.0
  live_each_names (More s (More t ss)) xs w = (live_names s xs w.0, live_each_names (More t ss) xs w.1)

-- ---- branches

abbrev pub Wider : List Name → List Name → Type 0
Wider xs ys = (y : Name) → IsTrue (is_among xs y) → IsTrue (is_among ys y)

pub wider_known : (xs ys : List Name) → Wider xs ys → (y : Name) → Known xs y → Known ys y
wider_known xs ys h y (inl w) = inl w
wider_known xs ys h y (inr e) = inr (h y e)

wider_one : (xs : List Name) (x : Name) → Wider xs (x ∷ xs)
wider_one xs x y e = by_test (same_name y x)
  where
    by_test : (b : Bool) → IsTrue (if b then true else is_among xs y)
    by_test true = refl
    by_test false = e

abbrev pub WritesIn : List Name → Assigned → Type 0
WritesIn xs [] = Unit {0}
WritesIn xs (w ∷ ws) = EachNameOfTerm (Known xs) w.1 × WritesIn xs ws

abbrev pub ItemsIn : List Name → List Item → Assigned → Type 0
ItemsIn xs [] ws = WritesIn xs ws
ItemsIn xs (Bind x kind ∷ is) ws = ItemsIn (x ∷ xs) is ws
ItemsIn xs (Guard p ∷ is) ws = EachName (Known xs) p × ItemsIn xs is ws

writes_wider : (xs ys : List Name) (ws : Assigned) → Wider xs ys → WritesIn xs ws → WritesIn ys ws
writes_wider xs ys [] h i = tt
writes_wider xs ys (w ∷ ws) h i = (weaken_term (Known xs) (Known ys) (wider_known xs ys h) w.1 i.0, writes_wider xs ys ws h i.1)

pub writes_both : (xs : List Name) (ws us : Assigned) → WritesIn xs ws → WritesIn xs us → WritesIn xs (ws ++ us)
writes_both xs [] us a b = b
writes_both xs (w ∷ ws) us a b = (a.0, writes_both xs ws us a.1 b)

writes_first : (xs : List Name) (is : List Item) (ws us : Assigned) → WritesIn xs ws → ItemsIn xs is us → ItemsIn xs is (ws ++ us)
writes_first xs [] ws us a i = writes_both xs ws us a i
writes_first xs (Bind x kind ∷ is) ws us a i = writes_first (x ∷ xs) is ws us (writes_wider xs (x ∷ xs) ws (wider_one xs x) a) i
writes_first xs (Guard p ∷ is) ws us a i = (i.0, writes_first xs is ws us a i.1)

items_joined : (xs : List Name) (is js : List Item) (ws us : Assigned) → ItemsIn xs is ws → ((ys : List Name) → Wider xs ys → ItemsIn ys js us) →
    ItemsIn xs (is ++ js) (ws ++ us)
items_joined xs [] js ws us i h = writes_first xs js ws us i (h xs (λ y e. e))
items_joined xs (Bind x kind ∷ is) js ws us i h = items_joined (x ∷ xs) is js ws us i (λ ys w. h ys (λ y e. w y (wider_one xs x y e)))
items_joined xs (Guard p ∷ is) js ws us i h = (i.0, items_joined xs is js ws us i.1 h)

-- the scope's opened names are known
abbrev pub Scoped : List Name → List Name → Type 0
Scoped scope xs = (y : Name) → IsWritten y → Known xs (opened_name scope y)

scoped_more : (scope xs : List Name) (x : Name) → Scoped scope xs → Scoped (x ∷ scope) (x ∷ xs)
scoped_more scope xs x h y w = by_test (same_name y (numbered x 0))
  where
    by_test : (b : Bool) → Known (x ∷ xs) (if b then x else opened_name scope y)
    by_test true = inr (subst (λ b. IsTrue (if b then true else is_among xs x)) (sym (same_name_self x)) refl)
    by_test false = wider_known xs (x ∷ xs) (wider_one xs x) (opened_name scope y) (h y w)

opened_in : (scope xs : List Name) (f : FormulaTree) → Scoped scope xs → EachName IsWritten f → EachName (Known xs) (opened scope f)
opened_in scope xs f h w = moved_names (Known xs) IsWritten (opened_names scope) bound_stays (λ k y yw. h y yw) (λ k j. tt) f 0 w

opened_term_in : (scope xs : List Name) (t : TermTree) → Scoped scope xs → EachNameOfTerm IsWritten t → EachNameOfTerm (Known xs) (opened_term scope t)
opened_term_in scope xs t h w = moved_names_of_term (Known xs) IsWritten (opened_names scope) bound_stays (λ k y yw. h y yw) (λ k j. tt) t 0 w

-- under the names `xs` and any more
abbrev pub Inside : List Name → Branch → Type 0
Inside xs b = (ys : List Name) → Wider xs ys → ItemsIn ys b.items b.writes

scoped_wider : (scope xs ys : List Name) → Wider xs ys → Scoped scope xs → Scoped scope ys
scoped_wider scope xs ys w h y yw = wider_known xs ys w (opened_name scope y) (h y yw)

wider_both : (xs ys : List Name) (x : Name) → Wider xs ys → Wider (x ∷ xs) (x ∷ ys)
wider_both xs ys x w y e = by_test (same_name y x) e
  where
    by_test : (b : Bool) → IsTrue (if b then true else is_among xs y) → IsTrue (if b then true else is_among ys y)
    by_test true e = refl
    by_test false e = w y e

mutual
  pub branches_in : (s : SubstTree) (k : ℕ) (scope xs : List Name) → AsWritten s → Scoped scope xs → EachOf (Inside xs) (branches_from k scope s)
  branches_in Skip k scope xs w h = ((λ ys v. tt), tt)
  branches_in (Assign x e) k scope xs w h = ((λ ys v. (opened_term_in scope ys e (scoped_wider scope xs ys v h) w.1.0, tt)), tt)
  branches_in (Together a b) k scope xs w h =
      (each_flat_map (Inside xs) (λ p. map (joined_branch p) (branches_from (k + binds p.items) scope b)) (branches_from k scope a)).1
      (each_step (Inside xs) (λ p. EachOf (Inside xs) (map (joined_branch p) (branches_from (k + binds p.items) scope b))) (branches_from k scope a) (branches_in a k scope xs w.0 h)
      (λ p i. (each_map (Inside xs) (joined_branch p) (branches_from (k + binds p.items) scope b)).1
      (each_step (Inside xs) (λ q. Inside xs (joined_branch p q)) (branches_from (k + binds p.items) scope b) (branches_in b (k + binds p.items) scope xs w.1 h)
      (λ q j ys v. items_joined ys p.items q.items p.writes q.writes (i ys v) (λ zs u. j zs (λ y e. u y (v y e)))))))
  branches_in (Choice ss) k scope xs w h = branches_in_each ss k scope xs w h
  branches_in (If p a b) k scope xs w h =
      (each_append (Inside xs) (map (guarded (opened scope p)) (branches_from k scope a)) (map (guarded (Not (opened scope p))) (branches_from k scope b))).1 (
        (each_map (Inside xs) (guarded (opened scope p)) (branches_from k scope a)).1
            (each_step (Inside xs) (λ q. Inside xs (guarded (opened scope p) q)) (branches_from k scope a) (branches_in a k scope xs w.1.0 h)
            (λ q i ys v. (opened_in scope ys p (scoped_wider scope xs ys v h) w.0.0, i ys v))),
        (each_map (Inside xs) (guarded (Not (opened scope p))) (branches_from k scope b)).1
            (each_step (Inside xs) (λ q. Inside xs (guarded (Not (opened scope p)) q)) (branches_from k scope b) (branches_in b k scope xs w.1.1 h)
            (λ q i ys v. (opened_in scope ys p (scoped_wider scope xs ys v h) w.0.0, i ys v))),
      )
  branches_in (AnyOf z domain p s) k scope xs w h =
      let x = numbered z (k + 1) in
      (each_map (Inside xs) (made.bound_branch x (kind_of_domain domain) (opened (x ∷ scope) p)) (branches_from (k + 1) (x ∷ scope) s)).1
      (each_step (Inside (x ∷ xs)) (λ q. Inside xs (made.bound_branch x (kind_of_domain domain) (opened (x ∷ scope) p) q)) (branches_from (k + 1) (x ∷ scope) s)
      (branches_in s (k + 1) (x ∷ scope) (x ∷ xs) w.1.1 (scoped_more scope xs x h))
      (λ q i ys v. (
        opened_in (x ∷ scope) (x ∷ ys) p (scoped_wider (x ∷ scope) (x ∷ xs) (x ∷ ys) (wider_both xs ys x v) (scoped_more scope xs x h)) w.1.0.0,
        i (x ∷ ys) (wider_both xs ys x v),
      )))

  branches_in_each : (ss : SubstTrees) (k : ℕ) (scope xs : List Name) → AsWrittenEach ss → Scoped scope xs → EachOf (Inside xs) (branches_of_each k scope ss)
  branches_in_each End k scope xs w h = tt
  branches_in_each (More s ss) k scope xs w h =
      (each_append (Inside xs) (branches_from k scope s) (branches_of_each k scope ss)).1 (branches_in s k scope xs w.0 h, branches_in_each ss k scope xs w.1 h)

assigned_names : (xs : List Name) (ws : Assigned) → WritesIn xs ws → (k : ℕ) (y : Name) → IsWritten y → EachNameOfTerm IsWritten (assigned xs ws k y)
assigned_names xs [] h k y w = w
assigned_names xs (u ∷ ws) h k y w =
    by_test (same_name y u.0) (moved_names_of_term IsWritten (Known xs) (as_bound xs) bound_stays (as_bound_names xs) (λ k j. tt) u.1 k h.0) (assigned_names xs ws h.1 k y w)
  where
    by_test : (b : Bool) → EachNameOfTerm IsWritten (mapped_term (as_bound xs) bound_stays k u.1) → EachNameOfTerm IsWritten (assigned xs ws k y) →
        EachNameOfTerm IsWritten (if b then mapped_term (as_bound xs) bound_stays k u.1 else assigned xs ws k y)
    by_test true a b = a
    by_test false a b = b

pub branch_names : (xs : List Name) (is : List Item) (ws : Assigned) (r : FormulaTree) → ItemsIn xs is ws → EachName IsWritten r → EachName IsWritten (branch_formula xs is ws r)
branch_names xs [] ws r i w = moved_names IsWritten IsWritten (assigned xs ws) bound_stays (assigned_names xs ws i) (λ k j. tt) r 0 w
branch_names xs (Bind x kind ∷ is) ws r i w = branch_names (x ∷ xs) is ws r i w
branch_names xs (Guard p ∷ is) ws r i w = (closed_names xs p i.0, branch_names xs is ws r i.1 w)

pub and_names : (f : FormulaTree) (bs : List Branch) (r : FormulaTree) → EachName IsWritten f → EachOf (Inside []) bs → EachName IsWritten r → EachName IsWritten (and_branches f bs r)
and_names f [] r h i w = h
and_names f (b ∷ bs) r h i w = and_names (And f (branch_formula [] b.items b.writes r)) bs r (h, branch_names [] b.items b.writes r (i.0 [] (λ y e. e)) w) i.1 w

pub all_names : (bs : List Branch) (r : FormulaTree) → EachOf (Inside []) bs → EachName IsWritten r → EachName IsWritten (all_branches bs r)
all_names [] r i w = tt
all_names (b ∷ bs) r i w = and_names (branch_formula [] b.items b.writes r) bs r (branch_names [] b.items b.writes r (i.0 [] (λ y e. e)) w) i.1 w

pub transformed_names : (s : SubstTree) (r : FormulaTree) → AsWritten s → EachName IsWritten r → EachName IsWritten (transformed s r)
transformed_names s r w rw = all_names (branches s) r (branches_in s 0 [] [] w (λ y yw. inl yw)) rw
