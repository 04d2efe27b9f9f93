use Rattle.cb_lin.proofs.FormValues as values
use Rattle.cb_lin.proofs.laws.numbers_can_be_given.Goals as goal

pub returns : goal.returns
returns c = values.numbers_can_be_given
