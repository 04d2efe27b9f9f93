use Rattle.std.proofs.Common.{true≢false, [], sym, refl, ◌∙◌, arith}
use mathlib.Core.Option.{none}
use Rattle.atomic_table.specs.Table.{step}
use Rattle.cb_turn.specs.Views.{giving}
use Rattle.cb_turn.specs.Words.{facts}
use Rattle.cb_turn.proofs.Belonging.{belongs_after}
use Rattle.cb_turn.proofs.Moves.{releases, released_is}
use Rattle.cb_turn.proofs.Orders.{in_order_giving}
use Rattle.cb_turn.proofs.turn.Turn.give.Goals as goal

pub store-requires : goal.store-requires
store-requires g c = let r = c.requires in let e = c.exchange.ensures in (
  e.0 ∙ r.pass.table,
  omega (arith, r.pass.words),
  releases g.T.Kept.plan g.T.Kept.list (step 0 0 0 0 none) _ _ _ _ c.args.value (r.pass.out r.holds) e.3 r.pass.live r.holds r.plan r.begins,
)

pub returns-clause-pass : goal.returns-clause-pass
returns-clause-pass g c = let r = c.requires in let e = c.exchange.ensures in let s = c.store.ensures in let v = facts c.args.pass.now in let list = g.T.Kept.list c.args.value in
    belongs_after c.args.self.now c.args.pass.now _ (giving v list, []) r.pass (s.0 ∙ e.0) (released_is g.T.Kept.plan g.T.Kept.list (step 0 0 0 0 none) _ _ _ c.args.value (r.pass.out r.holds) e.3 s.2)
    r.pass.live (in_order_giving v list r.begins r.pass.in_order) (λ _. refl) (λ holds. absurd (true≢false (sym holds)))
