use Rattle.cb_written.proofs.Lines.{channels_written}
use Rattle.cb_written.proofs.laws.channels_are_written.Goals as goal

pub returns : goal.returns
returns c = channels_written
