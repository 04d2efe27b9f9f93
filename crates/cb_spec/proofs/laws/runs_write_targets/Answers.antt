use Rattle.cb_spec.proofs.RunLemmas.{runs_targets}
use Rattle.cb_spec.proofs.laws.runs_write_targets.Goals as goal

pub returns : goal.returns
returns c = runs_targets
