use Rattle.cb_turn_queue.proofs.Openings.{begins, starts_at}
use Rattle.cb_turn_queue.proofs.turn.QueueTurn.start.Goals as goal

pub ruled-requires-clause-rule : goal.ruled-requires-clause-rule
ruled-requires-clause-rule g c = begins g.T.Kept.plan g.T.Kept.list

pub try_push_as-requires-clause-rule : goal.try_push_as-requires-clause-rule
try_push_as-requires-clause-rule g c = starts_at g.T.Kept.plan g.T.Kept.list _ _ _ _ c.in_ok-queue.ensures.3
