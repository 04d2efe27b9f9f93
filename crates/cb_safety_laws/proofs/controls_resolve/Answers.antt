use Rattle.cb_safety_laws.proofs.Resolving.{controls_resolve}
use Rattle.cb_safety_laws.proofs.controls_resolve.Goals as goal

pub returns : goal.returns
returns c = controls_resolve
