use Rattle.cb_safety_laws.proofs.Steps.{offered_calls_run}
use Rattle.cb_safety_laws.proofs.offered_calls_run.Goals as goal

pub returns : goal.returns
returns c = offered_calls_run
