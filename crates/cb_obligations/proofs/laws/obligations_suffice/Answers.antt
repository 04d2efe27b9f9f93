use Rattle.cb_obligations.proofs.Calls as calls
use Rattle.cb_obligations.proofs.laws.obligations_suffice.Goals as goal

pub returns : goal.returns
returns c = calls.obligations_suffice
