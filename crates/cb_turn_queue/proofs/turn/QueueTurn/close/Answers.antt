use Rattle.cb_turn.proofs.Steps.{takes, free_learns}
use Rattle.cb_turn_queue.proofs.turn.QueueTurn.close.Goals as goal

pub pop_as-requires-clause-rule : goal.pop_as-requires-clause-rule
pop_as-requires-clause-rule g c = let live = c.requires.pass.live in let free = c.requires.free in
    (takes g.T.Kept.plan g.T.Kept.list _ _ live free, free_learns g.T.Kept.plan g.T.Kept.list _ _ live free)
