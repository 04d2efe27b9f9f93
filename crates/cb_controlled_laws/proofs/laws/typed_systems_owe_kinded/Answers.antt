use Rattle.cb_controlled_laws.proofs.Whole.{typed_systems_owe_kinded}
use Rattle.cb_controlled_laws.proofs.laws.typed_systems_owe_kinded.Goals as goal

pub returns : goal.returns
returns c = typed_systems_owe_kinded
