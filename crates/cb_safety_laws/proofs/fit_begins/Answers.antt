use Rattle.cb_safety_laws.proofs.Safety.{fit_begins}
use Rattle.cb_safety_laws.proofs.fit_begins.Goals as goal

pub returns : goal.returns
returns c = fit_begins
