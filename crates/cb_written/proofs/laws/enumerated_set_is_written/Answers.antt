use Rattle.cb_written.proofs.Lines.{set_written}
use Rattle.cb_written.proofs.laws.enumerated_set_is_written.Goals as goal

pub returns : goal.returns
returns c = set_written
