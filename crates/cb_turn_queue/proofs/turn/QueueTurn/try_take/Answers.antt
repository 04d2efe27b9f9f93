use Rattle.cb_turn.proofs.Steps.{takes, free_learns}
use Rattle.cb_turn_queue.proofs.Belonging.{belongs_taken}
use Rattle.cb_turn_queue.proofs.turn.QueueTurn.try_take.Goals as goal

pub pop_as-requires-clause-rule : goal.pop_as-requires-clause-rule
pop_as-requires-clause-rule g c = let live = c.requires.pass.live in let free = c.requires.free in
    (takes g.T.Kept.plan g.T.Kept.list _ _ live free, free_learns g.T.Kept.plan g.T.Kept.list _ _ live free)

pub returns-clause-pass : goal.returns-clause-pass
returns-clause-pass g c = belongs_taken c.args.self.now c.args.pass.now _ g.T.Kept.plan g.T.Kept.list _ _ c.requires.pass c.pop_as.ensures.queue c.pop_as.ensures.rule
