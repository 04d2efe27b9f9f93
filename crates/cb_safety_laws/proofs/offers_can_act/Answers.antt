use Rattle.cb_safety_laws.proofs.Scans.{offers_can_act}
use Rattle.cb_safety_laws.proofs.offers_can_act.Goals as goal

pub returns : goal.returns
returns c = offers_can_act
