use Rattle.cb_written.proofs.Lines.{definition_written}
use Rattle.cb_written.proofs.laws.definition_is_written.Goals as goal

pub returns : goal.returns
returns c = definition_written
