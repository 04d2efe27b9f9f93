use Rattle.std.proofs.Common.{◌<◌, length, arith}
use Rattle.cb_offers.proofs.TableLemmas.{side_at, side_there}
use Rattle.cb_offers.proofs.table.ready_in.Goals as goal

pub is_ready-requires : goal.is_ready-requires
is_ready-requires c =
    let l : c.loop-branch.branch < length c.args.row.now = omega (arith, c.loop-branch-test.true, c.requires.high) in
    side_there (length c.args.channels.now) c.args.row.now c.loop-branch.branch _ c.requires.within (side_at c.args.row.now c.loop-branch.branch l)
