use Rattle.cb_top.proofs.Statuses.{have_statuses}
use Rattle.cb_top.proofs.laws.outcomes_have_statuses.Goals as goal

pub returns : goal.returns
returns c = have_statuses
