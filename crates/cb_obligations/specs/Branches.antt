-- The branches of a substitution.
use Rattle.std.specs.Prelude.{ℕ, ◌+◌, List, [], ◌∷◌, ◌++◌, map, flat_map, if◌then◌else◌}
use Rattle.cb_term.specs.declared.name.Name.{Name}
use Rattle.cb_term.specs.declared.kind.Kind.{Kind}
use Rattle.cb_term.specs.Names.{same_name}
use Rattle.cb_term.specs.Tree as tree
use Rattle.cb_term.specs.Tree.{TermTree, FormulaTree}
use Rattle.cb_term.specs.Change.{mapped_term, mapped_formula, bound_stays}
use Rattle.cb_spec.specs.Domains.{kind_of_domain}
use Rattle.cb_spec.specs.SubstTree.{SubstTree, Skip, Assign, Together, Choice, If, AnyOf, SubstTrees, End, More}

pub data Item : Type 0 where
  Bind : Name → Kind → Item
  Guard : FormulaTree → Item

-- names with terms, all written at once
abbrev pub Assigned : Type 0
Assigned = List (Name × TermTree)

pub record Branch : Type 0 where
  pub items : List Item
  pub writes : Assigned

-- the name with a number
abbrev pub numbered : Name → ℕ → Name
numbered x n = record { text = x.text; number = n }

-- the opened name that stands for the written one, the innermost of `scope` first
abbrev pub opened_name : List Name → Name → Name
opened_name [] y = y
opened_name (x ∷ scope) y = if same_name y (numbered x 0) then x else opened_name scope y

abbrev pub opened_names : List Name → ℕ → Name → TermTree
opened_names scope k y = tree.Var (opened_name scope y)

abbrev pub opened_term : List Name → TermTree → TermTree
opened_term scope t = mapped_term (opened_names scope) bound_stays 0 t

abbrev pub opened : List Name → FormulaTree → FormulaTree
opened scope f = mapped_formula (opened_names scope) bound_stays 0 f

-- how many of the items bind
abbrev pub binds : List Item → ℕ
binds [] = 0
binds (Bind x kind ∷ is) = binds is + 1
binds (Guard p ∷ is) = binds is

abbrev pub guarded : FormulaTree → Branch → Branch
guarded p b = record { items = Guard p ∷ b.items; writes = b.writes }

abbrev pub bound_branch : Name → Kind → FormulaTree → Branch → Branch
bound_branch x kind p b = record { items = Bind x kind ∷ Guard p ∷ b.items; writes = b.writes }

abbrev pub joined_branch : Branch → Branch → Branch
joined_branch a b = record { items = a.items ++ b.items; writes = a.writes ++ b.writes }

-- `k` names are bound before, and those of them in whose scope the substitution stands are in `scope`
abbrev mutual
  pub branches_from : ℕ → List Name → SubstTree → List Branch
  branches_from k scope Skip = record { items = []; writes = [] } ∷ []
  branches_from k scope (Assign x e) = record { items = []; writes = (x, opened_term scope e) ∷ [] } ∷ []
  branches_from k scope (Together a b) =
      flat_map (λ p. map (joined_branch p) (branches_from (k + binds p.items) scope b)) (branches_from k scope a)
  branches_from k scope (Choice ss) = branches_of_each k scope ss
  branches_from k scope (If p a b) =
      map (guarded (opened scope p)) (branches_from k scope a) ++ map (guarded (tree.Not (opened scope p))) (branches_from k scope b)
  branches_from k scope (AnyOf z domain p s) =
      map (bound_branch (numbered z (k + 1)) (kind_of_domain domain) (opened (numbered z (k + 1) ∷ scope) p))
      (branches_from (k + 1) (numbered z (k + 1) ∷ scope) s)

  pub branches_of_each : ℕ → List Name → SubstTrees → List Branch
  branches_of_each k scope End = []
  branches_of_each k scope (More s ss) = branches_from k scope s ++ branches_of_each k scope ss

abbrev pub branches : SubstTree → List Branch
branches s = branches_from 0 [] s
