use Rattle.std.proofs.Common.{true≢false, None, ◌∷◌, [], refl, ◌∙◌, arith}
use mathlib.Core.Option.{none}
use Rattle.atomic_table.specs.Table.{step}
use Rattle.cb_turn.specs.Views.{taking}
use Rattle.cb_turn.specs.Words.{facts}
use Rattle.cb_turn.proofs.Belonging.{belongs_after}
use Rattle.cb_turn.proofs.Moves.{claims, claimed_slot, claimed_is}
use Rattle.cb_turn.proofs.Orders.{in_order_taking}
use Rattle.cb_turn.proofs.turn.Turn.try_take.Goals as goal

pub compare_exchange-requires : goal.compare_exchange-requires
compare_exchange-requires g c = let r = c.requires in
    (r.pass.table, omega (arith, r.pass.words), claims g.T.Kept.plan g.T.Kept.list (step 0 0 0 0 none) _ _ _ (r.pass.empty r.free) r.pass.live r.free)

pub exchange-value-requires : goal.exchange-value-requires
exchange-value-requires g c = let e = c.compare_exchange.ensures in
    (e.0 ∙ c.requires.pass.table, claimed_slot g.T.Kept.plan g.T.Kept.list c.args.pass.now.seat.me _ (e.2.0 c.if-compare_exchange-ne0.false))

pub returns-clause-pass : goal.returns-clause-pass
returns-clause-pass g c = let r = c.requires in let e = c.compare_exchange.ensures in let out = c.exchange-value.ensures in
    let won = e.2.0 c.if-compare_exchange-ne0.false in let v = facts c.args.pass.now in let list = g.T.Kept.list won.0 in
    belongs_after c.args.self.now c.args.pass.now _ (taking v list, (0, None) ∷ []) r.pass (out.0 ∙ e.0) (claimed_is g.T.Kept.plan g.T.Kept.list c.args.pass.now.seat.me _ _ won (r.pass.empty r.free) out.3)
    r.pass.live (in_order_taking v list won.1.1 r.pass.in_order) (λ free. absurd (true≢false free)) (λ _. refl)
