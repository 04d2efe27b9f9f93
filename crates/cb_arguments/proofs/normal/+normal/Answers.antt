use Rattle.std.proofs.Common.{arith}
use Rattle.std.proofs.lemmas.Grind.{common_steps}
use Rattle.cb_normal.proofs.Trees.{item_nodes}
use Rattle.cb_arguments.proofs.Trees.{normal_terms}
use Rattle.cb_arguments.proofs.normal.+normal.Goals as goal

pub normal_listed-normal_term-requires : goal.normal_listed-normal_term-requires
normal_listed-normal_term-requires t c =
    let fewer = item_nodes c.args.terms.now c.loop-item.item-index c.item-item.result c.loop-item-test.true c.item-item.is in
    (omega (arith, fewer, c.decreases), tt)

pub normal_listed-returns-clause-tree : goal.normal_listed-returns-clause-tree
normal_listed-returns-clause-tree t c =
    let whole = normal_terms c.args.symbols.now c.args.bound.now c.args.terms.now in grind (arith, common_steps, whole)
