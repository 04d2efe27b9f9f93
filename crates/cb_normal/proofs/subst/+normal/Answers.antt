use Rattle.std.proofs.Common.{arith}
use Rattle.std.proofs.lemmas.Grind.{common_steps}
use Rattle.cb_normal.proofs.Trees.{normal_substs, side_nodes}
use Rattle.cb_normal.proofs.subst.+normal.Goals as goal

pub normal_choice-normal_subst-requires : goal.normal_choice-normal_subst-requires
normal_choice-normal_subst-requires t c =
    let fewer = side_nodes c.args.sides.now c.loop-side.side-index c.side-item.result c.loop-side-test.true c.side-item.is in
    (omega (arith, fewer, c.decreases), tt)

pub normal_choice-returns-clause-tree : goal.normal_choice-returns-clause-tree
normal_choice-returns-clause-tree t c =
    let whole = normal_substs c.args.view.now c.args.names.now c.args.sides.now in grind (arith, common_steps, whole)
