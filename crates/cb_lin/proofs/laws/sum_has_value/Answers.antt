use Rattle.cb_lin.proofs.FormValues as values
use Rattle.cb_lin.proofs.laws.sum_has_value.Goals as goal

pub returns : goal.returns
returns c = values.sum_has_value
