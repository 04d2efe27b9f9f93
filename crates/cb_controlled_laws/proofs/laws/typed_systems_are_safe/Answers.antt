use Rattle.cb_controlled_laws.proofs.Whole as whole
use Rattle.cb_controlled_laws.proofs.laws.typed_systems_are_safe.Goals as goal

pub returns : goal.returns
returns c = whole.typed_systems_are_safe
