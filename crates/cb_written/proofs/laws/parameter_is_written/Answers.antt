use Rattle.cb_written.proofs.Lines.{parameter_written}
use Rattle.cb_written.proofs.laws.parameter_is_written.Goals as goal

pub returns : goal.returns
returns c = parameter_written
