use Rattle.cb_safety_laws.proofs.Steps.{offered_is_fine}
use Rattle.cb_safety_laws.proofs.offered_is_fine.Goals as goal

pub returns : goal.returns
returns c = offered_is_fine
