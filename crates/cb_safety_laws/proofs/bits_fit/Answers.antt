use Rattle.cb_safety_laws.proofs.Steps.{bits_fit}
use Rattle.cb_safety_laws.proofs.bits_fit.Goals as goal

pub returns : goal.returns
returns c = bits_fit
