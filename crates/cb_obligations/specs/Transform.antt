-- What must hold before, for a formula to hold after; and the formula that says that a substitution is live.
use Rattle.std.specs.Prelude.{ℕ, ◌+◌, Bool, false, ◌&&◌, List, [], ◌∷◌, if◌then◌else◌, bytes_eq, codes}
use Rattle.cb_term.specs.declared.name.Name.{Name}
use Rattle.cb_term.specs.Names.{same_name}
use Rattle.cb_term.specs.Tree as tree
use Rattle.cb_term.specs.Tree.{TermTree, FormulaTree, Implies, And, Every, Exist}
use Rattle.cb_term.specs.Change.{mapped_term, mapped_formula, bound_stays}
use Rattle.cb_term.specs.declared.kind.Domain.{Domain}
use Rattle.cb_term.specs.Same.{same}
use Rattle.cb_spec.specs.Domains.{kind_of_domain, typing}
use Rattle.cb_spec.specs.SubstTree.{SubstTree, Skip, Assign, Together, Choice, If, AnyOf, SubstTrees, End, More}
use Rattle.cb_obligations.specs.Branches.{Item, Bind, Guard, Assigned, Branch, numbered, branches}

-- the place of the name among the bound ones, the innermost first, under `k` further binders
abbrev pub as_bound : List Name → ℕ → Name → TermTree
as_bound [] k y = tree.Var y
as_bound (x ∷ xs) k y = if same_name y x then tree.Bound k else as_bound xs (k + 1) y

abbrev pub closed_over : List Name → FormulaTree → FormulaTree
closed_over xs f = mapped_formula (as_bound xs) bound_stays 0 f

-- the term that is written to the name, under `k` binders of the formula
abbrev pub assigned : List Name → Assigned → ℕ → Name → TermTree
assigned xs [] k y = tree.Var y
assigned xs (w ∷ ws) k y = if same_name y w.0 then mapped_term (as_bound xs) bound_stays k w.1 else assigned xs ws k y

abbrev pub branch_formula : List Name → List Item → Assigned → FormulaTree → FormulaTree
branch_formula xs [] ws r = mapped_formula (assigned xs ws) bound_stays 0 r
branch_formula xs (Bind x kind ∷ is) ws r = Every (numbered x 0) kind (branch_formula (x ∷ xs) is ws r)
branch_formula xs (Guard p ∷ is) ws r = Implies (closed_over xs p) (branch_formula xs is ws r)

-- the conjunction of the branches' formulas after `f`, from left to right
abbrev pub and_branches : FormulaTree → List Branch → FormulaTree → FormulaTree
and_branches f [] r = f
and_branches f (b ∷ bs) r = and_branches (And f (branch_formula [] b.items b.writes r)) bs r

abbrev pub all_branches : List Branch → FormulaTree → FormulaTree
all_branches [] r = tree.True
all_branches (b ∷ bs) r = and_branches (branch_formula [] b.items b.writes r) bs r

abbrev pub transformed : SubstTree → FormulaTree → FormulaTree
transformed s r = all_branches (branches s) r

-- whether this ANY is what `x :: D` stands for, which is always live. No text has a name of that spelling
abbrev pub is_choice : Name → Domain → FormulaTree → SubstTree → Bool
is_choice z domain p (Assign x e) = bytes_eq z.text (codes "any") && same p (typing (tree.Var z) domain)
is_choice z domain p s = false

-- under the bound names `xs`, the innermost first
abbrev mutual
  pub live_under : List Name → SubstTree → FormulaTree
  live_under xs Skip = tree.True
  live_under xs (Assign x e) = tree.True
  live_under xs (Together a b) = And (live_under xs a) (live_under xs b)
  live_under xs (Choice ss) = live_each xs ss
  live_under xs (If p a b) = And (Implies (closed_over xs p) (live_under xs a)) (Implies (tree.Not (closed_over xs p)) (live_under xs b))
  live_under xs (AnyOf z domain p s) = if is_choice z domain p s then tree.True else And
      (Exist z (kind_of_domain domain) (closed_over (z ∷ xs) p))
      (Every z (kind_of_domain domain) (Implies (closed_over (z ∷ xs) p) (live_under (z ∷ xs) s)))

  pub live_each : List Name → SubstTrees → FormulaTree
  live_each xs End = tree.True
  live_each xs (More s End) = live_under xs s
  live_each xs (More s (More t ss)) = And (live_under xs s) (live_each xs (More t ss))

abbrev pub live : SubstTree → FormulaTree
live s = live_under [] s
