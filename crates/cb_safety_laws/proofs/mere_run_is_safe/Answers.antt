use Rattle.cb_safety_laws.proofs.Runs.{mere_run_is_safe}
use Rattle.cb_safety_laws.proofs.mere_run_is_safe.Goals as goal

pub returns : goal.returns
returns c = mere_run_is_safe
