use Rattle.std.proofs.Common.{ap}
use Rattle.cb_offers.specs.Tables.{OffersView}
use Rattle.cb_offers.proofs.ReadyLemmas.{told_by_met, told_by_calls}
use Rattle.cb_offers.proofs.offers.Offers.can_fire.Goals as goal

pub returns-then-self-gt0 : goal.returns-then-self-gt0
returns-then-self-gt0 c = told_by_met c.self.inside.table c.self.invariant c.args.self.now.rows (ap (λ (v : OffersView). v.rows) c.self.view_is) c.if-self-gt0.true

pub returns-else-self-gt0 : goal.returns-else-self-gt0
returns-else-self-gt0 c = told_by_calls c.self.inside.table c.self.invariant c.args.self.now.rows (ap (λ (v : OffersView). v.rows) c.self.view_is) c.if-self-gt0.false
