-- How many branches a substitution has.
use Rattle.std.specs.Prelude.{ℕ, ◌+◌, ◌*◌}
use Rattle.cb_spec.specs.SubstTree.{SubstTree, Skip, Assign, Together, Choice, If, AnyOf, SubstTrees, End, More}

abbrev mutual
  pub branch_count : SubstTree → ℕ
  branch_count Skip = 1
  branch_count (Assign x e) = 1
  branch_count (Together a b) = branch_count a * branch_count b
  branch_count (Choice ss) = branch_counts ss
  branch_count (If p a b) = branch_count a + branch_count b
  branch_count (AnyOf z domain p s) = branch_count s

  pub branch_counts : SubstTrees → ℕ
  branch_counts End = 0
  branch_counts (More s ss) = branch_count s + branch_counts ss
