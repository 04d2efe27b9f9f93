use Rattle.cb_turn.proofs.Steps.{forks}
use Rattle.cb_turn_queue.proofs.turn.QueueTurn.split.Goals as goal

pub another-requires-clause-rule : goal.another-requires-clause-rule
another-requires-clause-rule g c = let r = c.requires in forks g.T.Kept.plan g.T.Kept.list _ _ r.pass.live r.free r.first
