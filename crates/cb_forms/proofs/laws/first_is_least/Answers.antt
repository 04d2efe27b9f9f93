use Rattle.cb_forms.proofs.Order.{first_is}
use Rattle.cb_forms.proofs.laws.first_is_least.Goals as goal

pub returns : goal.returns
returns c = first_is
