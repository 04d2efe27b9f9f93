use Rattle.cb_offers.proofs.ViewLemmas.{same_view, on_err_weaker}
use Rattle.cb_offers.proofs.offers.Offers.set.Goals as goal

pub returns-clause-err : goal.returns-clause-err
returns-clause-err c = on_err_weaker c.set.result (λ steps. same_view c.self.inside.table c.args.self.now c.self.view_is c.set.new.self c.args.controller c.self.invariant steps) c.set.ensures.err
