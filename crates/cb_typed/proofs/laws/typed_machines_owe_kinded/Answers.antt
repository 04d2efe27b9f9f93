use Rattle.cb_typed.proofs.Owing as owing
use Rattle.cb_typed.proofs.laws.typed_machines_owe_kinded.Goals as goal

pub returns : goal.returns
returns c = owing.typed_machines_owe_kinded
