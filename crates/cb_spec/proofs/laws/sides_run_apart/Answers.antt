use Rattle.cb_spec.proofs.RunLemmas.{sides_apart}
use Rattle.cb_spec.proofs.laws.sides_run_apart.Goals as goal

pub returns : goal.returns
returns c = sides_apart
