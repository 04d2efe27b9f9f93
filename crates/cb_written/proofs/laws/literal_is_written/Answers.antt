use Rattle.cb_written.proofs.Lines.{literal_written}
use Rattle.cb_written.proofs.laws.literal_is_written.Goals as goal

pub returns : goal.returns
returns c = literal_written
