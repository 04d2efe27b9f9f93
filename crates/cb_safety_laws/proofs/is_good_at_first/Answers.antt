use Rattle.cb_safety_laws.proofs.Steps.{is_good_at_first}
use Rattle.cb_safety_laws.proofs.is_good_at_first.Goals as goal

pub returns : goal.returns
returns c = is_good_at_first
