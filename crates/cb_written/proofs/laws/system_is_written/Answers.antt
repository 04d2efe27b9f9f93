use Rattle.cb_written.proofs.Lines.{system_written}
use Rattle.cb_written.proofs.laws.system_is_written.Goals as goal

pub returns : goal.returns
returns c = system_written
