use Rattle.cb_written.proofs.Lines.{terms_written}
use Rattle.cb_written.proofs.laws.terms_are_written.Goals as goal

pub returns : goal.returns
returns c = terms_written
