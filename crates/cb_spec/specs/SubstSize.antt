-- How many nodes a substitution has.
use Rattle.std.specs.Prelude.{ℕ, ◌+◌}
use Rattle.cb_spec.specs.SubstTree.{SubstTree, Skip, Assign, Together, Choice, If, AnyOf, SubstTrees, End, More}

abbrev mutual
  pub subst_nodes : SubstTree → ℕ
  subst_nodes Skip = 1
  subst_nodes (Assign x e) = 1
  subst_nodes (Together a b) = subst_nodes a + subst_nodes b + 1
  subst_nodes (Choice ss) = substs_nodes ss + 1
  subst_nodes (If p a b) = subst_nodes a + subst_nodes b + 1
  subst_nodes (AnyOf z domain p s) = subst_nodes s + 1

  pub substs_nodes : SubstTrees → ℕ
  substs_nodes End = 0
  substs_nodes (More s ss) = subst_nodes s + substs_nodes ss
