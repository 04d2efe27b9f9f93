use Rattle.cb_safety_laws.proofs.Runs.{good_begins}
use Rattle.cb_safety_laws.proofs.good_begins.Goals as goal

pub returns : goal.returns
returns c = good_begins
