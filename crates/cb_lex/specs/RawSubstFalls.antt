-- Each child of a substitution has fewer nodes than the substitution.
use Rattle.std.specs.Prelude.{◌+◌, ◌≤◌, max, List, [], ◌∷◌}
use Rattle.std.proofs.Common.{arith}
use denote.Param.Weighed.{most}
use Rattle.cb_lex.specs.RawSubstTree.{RawSubstTree, raw_substs, subst_nodes, substs_nodes}
use Rattle.cb_lex.specs.RawSubstView.{subst_of}
use Rattle.cb_lex.specs.declared.raw.subst.RawSubstNode.{RawSubstNode}
use Rattle.cb_lex.specs.declared.raw.subst.RawSubstNode.TheVariants.{Skip, Assign, Among, If, IfElse, Choice, Any, Parallel}
use Rattle.cb_lex.specs.declared.raw.subst.RawSubst.TheDeep.{deep-RawSubstNode}

most_le-substs_nodes : (ss : List RawSubstTree) → most (λ s. subst_nodes s + 1) ss ≤ substs_nodes (raw_substs ss) + 1
most_le-substs_nodes [] = omega arith
most_le-substs_nodes (s ∷ ss) = omega (arith, most_le-substs_nodes ss)

pub subst_falls : (n : RawSubstNode) → max (deep-RawSubstNode n) 0 ≤ subst_nodes (subst_of n)
subst_falls Skip = omega arith
subst_falls (Assign x t) = omega arith
subst_falls (Among x d) = omega arith
subst_falls (If f s) = omega arith
subst_falls (IfElse f s t) = omega arith
subst_falls (Choice ss) = omega (arith, most_le-substs_nodes ss)
subst_falls (Any x f s) = omega arith
subst_falls (Parallel s t) = omega arith
