use Rattle.cb_controlled_laws.proofs.Speaking as speaking
use Rattle.cb_controlled_laws.proofs.laws.typed_controllers_fit.Goals as goal

pub returns : goal.returns
returns c = speaking.typed_controllers_fit
