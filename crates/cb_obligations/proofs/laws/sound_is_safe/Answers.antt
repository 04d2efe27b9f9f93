use Rattle.cb_obligations.proofs.Calls as calls
use Rattle.cb_obligations.proofs.laws.sound_is_safe.Goals as goal

pub returns : goal.returns
returns c = calls.sound_is_safe
