use Rattle.cb_written.proofs.Lines.{constants_written}
use Rattle.cb_written.proofs.laws.constants_are_written.Goals as goal

pub returns : goal.returns
returns c = constants_written
