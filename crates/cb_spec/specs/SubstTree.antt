-- Substitutions as plain trees.
use Rattle.cb_term.specs.declared.name.Name.{Name}
use Rattle.cb_term.specs.declared.kind.Domain.{Domain}
use Rattle.cb_term.specs.Tree.{TermTree, FormulaTree}
use Rattle.std.specs.Prelude.{List, [], ◌∷◌}

mutual
  pub data SubstTree : Type 0 where
    Skip : SubstTree
    Assign : Name → TermTree → SubstTree
    Together : SubstTree → SubstTree → SubstTree
    Choice : SubstTrees → SubstTree
    If : FormulaTree → SubstTree → SubstTree → SubstTree
    AnyOf : Name → Domain → FormulaTree → SubstTree → SubstTree

  -- the sides of a choice
  pub data SubstTrees : Type 0 where
    End : SubstTrees
    More : SubstTree → SubstTrees → SubstTrees

-- a list as the tree holds it
abbrev pub sides_of : List SubstTree → SubstTrees
sides_of [] = End
sides_of (s ∷ ss) = More s (sides_of ss)
