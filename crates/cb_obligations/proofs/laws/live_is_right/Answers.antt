use Rattle.cb_obligations.proofs.Transforms.{live_right}
use Rattle.cb_obligations.proofs.laws.live_is_right.Goals as goal

pub returns : goal.returns
returns c = live_right
