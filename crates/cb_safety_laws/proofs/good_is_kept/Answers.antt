use Rattle.cb_safety_laws.proofs.Runs.{good_is_kept}
use Rattle.cb_safety_laws.proofs.good_is_kept.Goals as goal

pub returns : goal.returns
returns c = good_is_kept
