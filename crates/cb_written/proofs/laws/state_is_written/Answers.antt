use Rattle.cb_written.proofs.Lines.{state_written}
use Rattle.cb_written.proofs.laws.state_is_written.Goals as goal

pub returns : goal.returns
returns c = state_written
