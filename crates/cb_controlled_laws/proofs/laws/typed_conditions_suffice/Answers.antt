use Rattle.cb_controlled_laws.proofs.Whole as whole
use Rattle.cb_controlled_laws.proofs.laws.typed_conditions_suffice.Goals as goal

pub returns : goal.returns
returns c = whole.typed_conditions_suffice
