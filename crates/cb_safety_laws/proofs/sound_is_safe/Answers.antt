use Rattle.cb_safety_laws.proofs.Runs.{sound_is_safe}
use Rattle.cb_safety_laws.proofs.sound_is_safe.Goals as goal

pub returns : goal.returns
returns c = sound_is_safe
