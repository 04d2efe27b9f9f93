use Rattle.cb_safety_laws.proofs.Safety.{fit_is_kept}
use Rattle.cb_safety_laws.proofs.fit_is_kept.Goals as goal

pub returns : goal.returns
returns c = fit_is_kept
