use Rattle.std.proofs.Common.{true≢false, sym, ◌∙◌, arith}
use Rattle.cb_turn.specs.Views.{joined}
use Rattle.cb_turn.specs.Words.{facts}
use Rattle.cb_turn.proofs.Belonging.{belongs_after}
use Rattle.cb_turn.proofs.Moves.{joins}
use Rattle.cb_turn.proofs.Orders.{in_order_joined}
use Rattle.cb_turn.proofs.turn.Turn.join.Goals as goal

pub join_seat-requires : goal.join_seat-requires
join_seat-requires g c = let r = c.requires in let o = r.other in
    (r.pass.table, o.0.table, o.0.empty o.1, omega (arith, r.pass.words), joins g.T.Kept.plan g.T.Kept.list _ _ _ _ r.pass.live r.free r.first o.0.live o.1)

pub returns-clause-pass : goal.returns-clause-pass
returns-clause-pass g c = let r = c.requires in let e = c.join_seat.ensures in let v = facts c.args.pass.now in let w = facts c.args.other in
    belongs_after c.args.self.now c.args.pass.now _ (joined v w, c.args.pass.now.seat.me.1) r.pass e.0 e.2 r.pass.live (in_order_joined v w r.pass.in_order) (λ _. r.pass.empty r.free) (λ holds. absurd (true≢false (sym holds ∙ r.free)))
