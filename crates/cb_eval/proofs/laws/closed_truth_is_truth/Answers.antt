use Rattle.cb_eval.proofs.SoundLemmas.{closed_sound}
use Rattle.cb_eval.proofs.laws.closed_truth_is_truth.Goals as goal

pub returns : goal.returns
returns c = closed_sound
