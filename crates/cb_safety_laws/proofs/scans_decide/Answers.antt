use Rattle.cb_safety_laws.proofs.Scans.{scans_decide}
use Rattle.cb_safety_laws.proofs.scans_decide.Goals as goal

pub returns : goal.returns
returns c = scans_decide
