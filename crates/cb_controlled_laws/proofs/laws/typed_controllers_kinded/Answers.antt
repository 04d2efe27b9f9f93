use Rattle.cb_controlled_laws.proofs.Arguing as arguing
use Rattle.cb_controlled_laws.proofs.laws.typed_controllers_kinded.Goals as goal

pub returns : goal.returns
returns c = arguing.typed_controllers_kinded
