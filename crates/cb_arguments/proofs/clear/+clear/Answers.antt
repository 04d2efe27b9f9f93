use Rattle.std.proofs.Common.{arith}
use Rattle.cb_normal.proofs.Trees.{item_nodes}
use Rattle.cb_arguments.proofs.clear.+clear.Goals as goal

pub all_are_clear-term_is_clear-requires : goal.all_are_clear-term_is_clear-requires
all_are_clear-term_is_clear-requires t c =
    let fewer = item_nodes c.args.terms.now c.loop-item.item-index c.item-item.result c.loop-item-test.true c.item-item.is in
    (omega (arith, fewer, c.decreases), tt)
