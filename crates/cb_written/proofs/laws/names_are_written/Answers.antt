use Rattle.cb_written.proofs.Lines.{names_written}
use Rattle.cb_written.proofs.laws.names_are_written.Goals as goal

pub returns : goal.returns
returns c = names_written
