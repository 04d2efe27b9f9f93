use Rattle.cb_safety_laws.proofs.Steps.{stays_good}
use Rattle.cb_safety_laws.proofs.stays_good.Goals as goal

pub returns : goal.returns
returns c = stays_good
