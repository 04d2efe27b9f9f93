-- The tree that a node of a substitution stands for.
use Rattle.cb_spec.specs.SubstTree.{SubstTree, sides_of}
use Rattle.cb_spec.specs.SubstTree as tree
use Rattle.cb_spec.specs.declared.subst.SubstNode.{SubstNode}
use Rattle.cb_spec.specs.declared.subst.SubstNode.TheVariants.{Skip, Assign, Together, Choice, If, AnyOf}

abbrev pub subst_of : SubstNode → SubstTree
subst_of Skip = tree.Skip
subst_of (Assign x e) = tree.Assign x e
subst_of (Together a b) = tree.Together a.value b.value
subst_of (Choice sides) = tree.Choice (sides_of sides)
subst_of (If p a b) = tree.If p a.value b.value
subst_of (AnyOf z domain p s) = tree.AnyOf z domain p s.value
