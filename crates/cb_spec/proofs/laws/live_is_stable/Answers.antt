use Rattle.cb_spec.proofs.RunLemmas.{live_stable}
use Rattle.cb_spec.proofs.laws.live_is_stable.Goals as goal

pub returns : goal.returns
returns c = live_stable
