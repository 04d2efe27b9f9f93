use Rattle.cb_lin.proofs.FormValues as values
use Rattle.cb_lin.proofs.laws.form_has_value.Goals as goal

pub returns : goal.returns
returns c = values.form_has_value
