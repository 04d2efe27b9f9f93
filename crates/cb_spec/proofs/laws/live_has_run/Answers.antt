use Rattle.cb_spec.proofs.RunLemmas.{live_runs}
use Rattle.cb_spec.proofs.laws.live_has_run.Goals as goal

pub returns : goal.returns
returns c = live_runs
