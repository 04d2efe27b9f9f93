use Rattle.cb_lin.proofs.FormValues as values
use Rattle.cb_lin.proofs.laws.sum_is_not_negative.Goals as goal

pub returns : goal.returns
returns c = values.sum_is_not_negative
