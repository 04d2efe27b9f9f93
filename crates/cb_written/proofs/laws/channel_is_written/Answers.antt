use Rattle.cb_written.proofs.Lines.{channel_written}
use Rattle.cb_written.proofs.laws.channel_is_written.Goals as goal

pub returns : goal.returns
returns c = channel_written
