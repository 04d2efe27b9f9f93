use Rattle.cb_written.proofs.ProofLines.{row_written}
use Rattle.cb_written.proofs.laws.row_is_written.Goals as goal

pub returns : goal.returns
returns c = row_written
