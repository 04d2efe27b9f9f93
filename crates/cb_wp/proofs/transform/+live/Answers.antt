use Rattle.std.proofs.Common.{arith}
use Rattle.std.proofs.lemmas.Grind.{common_steps}
use Rattle.cb_wp.proofs.LiveLemmas.{side_nodes, each_side}
use Rattle.cb_wp.proofs.transform.+live.Goals as goal

pub live_choice-live_under-requires : goal.live_choice-live_under-requires
live_choice-live_under-requires t c =
    let fewer = side_nodes c.args.sides.now c.loop-side.side-index c.side-item.result c.loop-side-test.true c.side-item.is in
    (omega (arith, fewer, c.decreases), tt)

pub live_choice-returns : goal.live_choice-returns
live_choice-returns t c =
    let whole = each_side c.args.bound.now c.args.sides.now in
    grind (arith, common_steps, whole)
