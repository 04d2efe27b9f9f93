use Rattle.std.proofs.Common.{refl}
use Rattle.cb_turn.specs.Views.{joined}
use Rattle.cb_turn.proofs.Orders.{in_order_joined}
use Rattle.cb_turn.proofs.Steps.{merges}
use Rattle.cb_turn_queue.specs.Words.{facts}
use Rattle.cb_turn_queue.proofs.Belonging.{belongs_after}
use Rattle.cb_turn_queue.proofs.turn.QueueTurn.join.Goals as goal

pub absorb-requires-clause-rule : goal.absorb-requires-clause-rule
absorb-requires-clause-rule g c = let r = c.requires in merges g.T.Kept.plan g.T.Kept.list _ _ _ _ r.pass.live r.free r.first r.other.0.live r.other.1

pub returns-clause-pass : goal.returns-clause-pass
returns-clause-pass g c = let r = c.requires in let v = facts c.args.pass.now in let w = facts c.args.other in
    belongs_after c.args.self.now c.args.pass.now _ (joined v w) r.pass c.absorb.ensures.queue c.absorb.ensures.rule refl (in_order_joined v w r.pass.in_order)
