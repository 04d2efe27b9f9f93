use Rattle.cb_spec.proofs.RunLemmas.{live_agrees}
use Rattle.cb_spec.proofs.laws.live_reads_names.Goals as goal

pub returns : goal.returns
returns c = live_agrees
