use Rattle.std.proofs.Common.{arith}
use Rattle.cb_wp.proofs.LiveLemmas.{side_nodes}
use Rattle.cb_starts.proofs.copies.+copies.Goals as goal

pub copy_choice-copy_subst-requires : goal.copy_choice-copy_subst-requires
copy_choice-copy_subst-requires t c =
    let fewer = side_nodes c.args.sides.now c.loop-side.side-index c.side-item.result c.loop-side-test.true c.side-item.is in
    (omega (arith, fewer, c.decreases), tt)
