-- The tree that a node of a substitution stands for.
use Rattle.cb_lex.specs.RawSubstTree.{RawSubstTree, raw_substs}
use Rattle.cb_lex.specs.RawSubstTree as tree
use Rattle.cb_lex.specs.declared.raw.subst.RawSubstNode.{RawSubstNode}
use Rattle.cb_lex.specs.declared.raw.subst.RawSubstNode.TheVariants.{Skip, Assign, Among, If, IfElse, Choice, Any, Parallel}

abbrev pub subst_of : RawSubstNode → RawSubstTree
subst_of Skip = tree.Skip
subst_of (Assign x t) = tree.Assign x t
subst_of (Among x d) = tree.Among x d
subst_of (If f s) = tree.If f s.value
subst_of (IfElse f s t) = tree.IfElse f s.value t.value
subst_of (Choice ss) = tree.Choice (raw_substs ss)
subst_of (Any x f s) = tree.Any x f s.value
subst_of (Parallel s t) = tree.Parallel s.value t.value
