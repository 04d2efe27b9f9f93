use Rattle.cb_written.proofs.Lines.{controller_written}
use Rattle.cb_written.proofs.laws.controller_is_written.Goals as goal

pub returns : goal.returns
returns c = controller_written
