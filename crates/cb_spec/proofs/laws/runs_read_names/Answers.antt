use Rattle.cb_spec.proofs.RunLemmas.{runs_agree}
use Rattle.cb_spec.proofs.laws.runs_read_names.Goals as goal

pub returns : goal.returns
returns c = runs_agree
