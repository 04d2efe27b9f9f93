-- Each part of a substitution has fewer nodes than the whole.
use Rattle.std.specs.Prelude.{◌+◌, ◌≤◌, max, List, [], ◌∷◌}
use Rattle.std.proofs.Common.{arith}
use denote.Param.Weighed.{most}
use Rattle.cb_spec.specs.SubstTree.{SubstTree, sides_of}
use Rattle.cb_spec.specs.SubstSize.{subst_nodes, substs_nodes}
use Rattle.cb_spec.specs.SubstView.{subst_of}
use Rattle.cb_spec.specs.declared.subst.SubstNode.{SubstNode}
use Rattle.cb_spec.specs.declared.subst.SubstNode.TheVariants.{Skip, Assign, Together, Choice, If, AnyOf}
use Rattle.cb_spec.specs.declared.subst.Subst.TheDeep.{deep-SubstNode}

pub most_le-substs_nodes : (ss : List SubstTree) → most (λ s. subst_nodes s + 1) ss ≤ substs_nodes (sides_of ss) + 1
most_le-substs_nodes [] = omega arith
most_le-substs_nodes (s ∷ ss) = omega (arith, most_le-substs_nodes ss)

pub subst_falls : (n : SubstNode) → max (deep-SubstNode n) 0 ≤ subst_nodes (subst_of n)
subst_falls Skip = omega arith
subst_falls (Assign x e) = omega arith
subst_falls (Together a b) = omega arith
subst_falls (Choice ss) = omega (arith, most_le-substs_nodes ss)
subst_falls (If p a b) = omega arith
subst_falls (AnyOf z domain p s) = omega arith
