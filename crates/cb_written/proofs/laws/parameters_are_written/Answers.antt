use Rattle.cb_written.proofs.Lines.{parameters_written}
use Rattle.cb_written.proofs.laws.parameters_are_written.Goals as goal

pub returns : goal.returns
returns c = parameters_written
