use Rattle.cb_controlled_laws.proofs.Whole.{typed_controllers_are_plain}
use Rattle.cb_controlled_laws.proofs.laws.typed_controllers_are_plain.Goals as goal

pub returns : goal.returns
returns c = typed_controllers_are_plain
