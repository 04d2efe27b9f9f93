use Rattle.cb_written.proofs.Lines.{factor_written}
use Rattle.cb_written.proofs.laws.factor_is_written.Goals as goal

pub returns : goal.returns
returns c = factor_written
