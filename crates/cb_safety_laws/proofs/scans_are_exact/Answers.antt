use Rattle.cb_safety_laws.proofs.Scans.{scans_are_exact}
use Rattle.cb_safety_laws.proofs.scans_are_exact.Goals as goal

pub returns : goal.returns
returns c = scans_are_exact
