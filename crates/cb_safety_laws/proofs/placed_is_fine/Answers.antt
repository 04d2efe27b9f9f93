use Rattle.cb_safety_laws.proofs.Steps.{placed_is_fine}
use Rattle.cb_safety_laws.proofs.placed_is_fine.Goals as goal

pub returns : goal.returns
returns c = placed_is_fine
