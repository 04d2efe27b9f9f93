use Rattle.std.proofs.Common.{arith}
use Rattle.cb_turn.proofs.Moves.{splits}
use Rattle.cb_turn.proofs.turn.Turn.split.Goals as goal

pub split_seat-requires : goal.split_seat-requires
split_seat-requires g c = let r = c.requires in (r.pass.table, omega (arith, r.pass.words), splits g.T.Kept.plan g.T.Kept.list _ _ r.pass.live r.free r.first)
