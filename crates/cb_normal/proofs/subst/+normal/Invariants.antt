use Rattle.std.proofs.Common.{◌≡◌, ◌+◌, ◌*◌, ◌++◌, drop, map}
use Rattle.cb_lex.specs.RawSubstTree.{raw_substs, subst_nodes, substs_nodes}
use Rattle.cb_normal.specs.NormalSubsts.{subst_in}
use Rattle.cb_normal.proofs.subst.+normal.Given as goal

abbrev pub invariant-normal_choice-loop-side : goal.invariant-normal_choice-loop-side
invariant-normal_choice-loop-side l =
    let f = subst_in l.view l.fn.names in
    (l.all ++ map f (drop l.side-index l.sides) ≡ map f l.sides) × (l.names ≡ l.fn.names)

abbrev pub decreases-normal_subst : goal.decreases-normal_subst
decreases-normal_subst l = 5 * subst_nodes l.subst.now

abbrev pub decreases-boxed_subst : goal.decreases-boxed_subst
decreases-boxed_subst l = 5 * subst_nodes l.subst.now + 1

abbrev pub decreases-tested : goal.decreases-tested
decreases-tested l = 5 * subst_nodes l.then.now + 2

abbrev pub decreases-normal_if : goal.decreases-normal_if
decreases-normal_if l = 5 * subst_nodes l.then.now + 3

abbrev pub decreases-normal_if_else : goal.decreases-normal_if_else
decreases-normal_if_else l = 5 * (subst_nodes l.then.now + subst_nodes l.otherwise.now) + 3

abbrev pub decreases-normal_choice : goal.decreases-normal_choice
decreases-normal_choice l = 5 * substs_nodes (raw_substs l.sides.now) + 1

abbrev pub decreases-normal_any : goal.decreases-normal_any
decreases-normal_any l = 5 * subst_nodes l.body.now + 4

abbrev pub decreases-tested_within : goal.decreases-tested_within
decreases-tested_within l = 5 * subst_nodes l.body.now + 3

abbrev pub decreases-normal_parallel : goal.decreases-normal_parallel
decreases-normal_parallel l = 5 * (subst_nodes l.left.now + subst_nodes l.right.now) + 2
