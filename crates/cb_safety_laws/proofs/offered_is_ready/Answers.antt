use Rattle.cb_safety_laws.proofs.Steps.{offered_is_ready}
use Rattle.cb_safety_laws.proofs.offered_is_ready.Goals as goal

pub returns : goal.returns
returns c = offered_is_ready
