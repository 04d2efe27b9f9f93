use Rattle.cb_written.proofs.Lines.{machine_written}
use Rattle.cb_written.proofs.laws.machine_is_written.Goals as goal

pub returns : goal.returns
returns c = machine_written
