use Rattle.cb_obligations.proofs.Transforms.{transform_right}
use Rattle.cb_obligations.proofs.laws.transform_is_right.Goals as goal

pub returns : goal.returns
returns c = transform_right
