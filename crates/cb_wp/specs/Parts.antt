-- Branches as the code holds them.
use Rattle.std.specs.Prelude.{ℕ, ◌+◌, List, [], ◌∷◌, map}
use Rattle.cb_term.specs.declared.name.Name.{Name}
use Rattle.cb_term.specs.declared.kind.Kind.{Kind}
use Rattle.cb_term.specs.Tree.{FormulaTree, True, And}
use Rattle.cb_obligations.specs.Branches as spec
use Rattle.cb_wp.specs.declared.branches.Item.{Item}
use Rattle.cb_wp.specs.declared.branches.Item.TheVariants.{Bind, Guard}
use Rattle.cb_wp.specs.declared.branches.Branch.{Branch}
use Rattle.cb_wp.specs.declared.branches.Begun.{Begun}

abbrev pub item_of : Item → spec.Item
item_of (Bind x kind) = spec.Bind x kind
item_of (Guard p) = spec.Guard p

abbrev pub branch_of : Branch → spec.Branch
branch_of b = record { items = map item_of b.items; writes = b.writes }

-- a branch, and how many names are bound before what follows it
abbrev pub begun_of : Begun → ℕ × spec.Branch
begun_of b = (b.number, branch_of b.branch)

-- the branches that `f` has at that number, each after the one begun
abbrev pub after : (ℕ → List spec.Branch) → ℕ × spec.Branch → List (ℕ × spec.Branch)
after f c = map (λ (q : spec.Branch). (c.0 + spec.binds q.items, spec.joined_branch c.1 q)) (f c.0)

-- the guard behind what is begun
abbrev pub guarded : ℕ × spec.Branch → FormulaTree → ℕ × spec.Branch
guarded c p = (c.0, spec.joined_branch c.1 (record { items = spec.Guard p ∷ []; writes = [] }))

-- the name, numbered n, and the guard behind it
abbrev pub bound : ℕ × spec.Branch → ℕ → Name → Kind → FormulaTree → ℕ × spec.Branch
bound c n x kind p = (n, spec.joined_branch c.1 (record { items = spec.Bind (spec.numbered x n) kind ∷ spec.Guard p ∷ []; writes = [] }))

-- the formulas' conjunction, grouped to the right
abbrev pub conjunction : List FormulaTree → FormulaTree
conjunction [] = True
conjunction (g ∷ []) = g
conjunction (g ∷ h ∷ gs) = And g (conjunction (h ∷ gs))
