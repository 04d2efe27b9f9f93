use Rattle.std.proofs.Common.{◌≡◌, ◌+◌, ◌*◌, ◌++◌, drop}
use Rattle.cb_spec.specs.SubstTree.{sides_of}
use Rattle.cb_spec.specs.SubstSize.{subst_nodes, substs_nodes}
use Rattle.cb_starts.proofs.copies.+copies.Given as goal

abbrev pub invariant-copy_choice-loop-side : goal.invariant-copy_choice-loop-side
invariant-copy_choice-loop-side l = l.copies ++ drop l.side-index l.sides ≡ l.sides

abbrev pub decreases-copy_subst : goal.decreases-copy_subst
decreases-copy_subst l = 4 * subst_nodes l.subst.now

abbrev pub decreases-boxed_copy : goal.decreases-boxed_copy
decreases-boxed_copy l = 4 * subst_nodes l.subst.now + 1

abbrev pub decreases-copy_together : goal.decreases-copy_together
decreases-copy_together l = 4 * (subst_nodes l.left.now + subst_nodes l.right.now) + 2

abbrev pub decreases-copy_choice : goal.decreases-copy_choice
decreases-copy_choice l = 4 * substs_nodes (sides_of l.sides.now) + 1

abbrev pub decreases-copy_tested : goal.decreases-copy_tested
decreases-copy_tested l = 4 * subst_nodes l.body.now + 2

abbrev pub decreases-copy_if : goal.decreases-copy_if
decreases-copy_if l = 4 * (subst_nodes l.then.now + subst_nodes l.other.now) + 3

abbrev pub decreases-copy_any : goal.decreases-copy_any
decreases-copy_any l = 4 * subst_nodes l.body.now + 3
