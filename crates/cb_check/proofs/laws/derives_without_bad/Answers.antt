use Rattle.cb_check.proofs.CheckSound.{without_bad}
use Rattle.cb_check.proofs.laws.derives_without_bad.Goals as goal

pub returns : goal.returns
returns c = without_bad
