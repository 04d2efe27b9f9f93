use Rattle.std.proofs.Common.{refl}
use Rattle.cb_turn.specs.Views.{giving}
use Rattle.cb_turn.proofs.Orders.{in_order_giving}
use Rattle.cb_turn.proofs.Steps.{gives, holder_learns}
use Rattle.cb_turn_queue.specs.Words.{facts}
use Rattle.cb_turn_queue.proofs.Belonging.{belongs_after}
use Rattle.cb_turn_queue.proofs.turn.QueueTurn.give.Goals as goal

pub push_as-requires-clause-rule : goal.push_as-requires-clause-rule
push_as-requires-clause-rule g c = let r = c.requires in
    (λ items views room. gives g.T.Kept.plan g.T.Kept.list _ _ _ r.pass.live r.holds r.plan r.begins items views, holder_learns g.T.Kept.plan g.T.Kept.list _ _ r.holds)

pub returns-clause-pass : goal.returns-clause-pass
returns-clause-pass g c = let r = c.requires in let v = facts c.args.pass.now in let list = g.T.Kept.list c.args.value in
    belongs_after c.args.self.now c.args.pass.now _ (giving v list) r.pass c.push_as.ensures.queue c.in-Ok.ensures.rule refl (in_order_giving v list r.begins r.pass.in_order)
