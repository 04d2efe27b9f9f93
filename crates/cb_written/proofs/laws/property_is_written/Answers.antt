use Rattle.cb_written.proofs.Lines.{property_written}
use Rattle.cb_written.proofs.laws.property_is_written.Goals as goal

pub returns : goal.returns
returns c = property_written
