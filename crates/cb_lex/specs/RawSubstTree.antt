-- Substitutions as they are written, as plain trees.
use Rattle.std.specs.Prelude.{ℕ, ◌+◌, List, [], ◌∷◌}
use Rattle.cb_lex.specs.declared.raw.name.RawName.{RawName}
use Rattle.cb_lex.specs.declared.raw.domain.RawDomain.{RawDomain}
use Rattle.cb_lex.specs.RawTermTree.{RawTermTree, RawFormulaTree}

mutual
  pub data RawSubstTree : Type 0 where
    Skip : RawSubstTree
    Assign : RawName → RawTermTree → RawSubstTree
    Among : RawName → RawDomain → RawSubstTree
    If : RawFormulaTree → RawSubstTree → RawSubstTree
    IfElse : RawFormulaTree → RawSubstTree → RawSubstTree → RawSubstTree
    Choice : RawSubsts → RawSubstTree
    Any : RawName → RawFormulaTree → RawSubstTree → RawSubstTree
    Parallel : RawSubstTree → RawSubstTree → RawSubstTree

  -- the sides of a choice
  pub data RawSubsts : Type 0 where
    NoSide : RawSubsts
    Side : RawSubstTree → RawSubsts → RawSubsts

-- a list as the tree holds it
abbrev pub raw_substs : List RawSubstTree → RawSubsts
raw_substs [] = NoSide
raw_substs (s ∷ ss) = Side s (raw_substs ss)

-- how many nodes a tree has
abbrev mutual
  pub subst_nodes : RawSubstTree → ℕ
  subst_nodes Skip = 1
  subst_nodes (Assign x t) = 1
  subst_nodes (Among x d) = 1
  subst_nodes (If f s) = subst_nodes s + 1
  subst_nodes (IfElse f s t) = subst_nodes s + subst_nodes t + 1
  subst_nodes (Choice ss) = substs_nodes ss + 1
  subst_nodes (Any x f s) = subst_nodes s + 1
  subst_nodes (Parallel s t) = subst_nodes s + subst_nodes t + 1

  pub substs_nodes : RawSubsts → ℕ
  substs_nodes NoSide = 0
  substs_nodes (Side s ss) = subst_nodes s + substs_nodes ss
