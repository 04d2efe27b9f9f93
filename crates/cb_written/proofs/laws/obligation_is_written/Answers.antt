use Rattle.cb_written.proofs.ProofLines.{obligation_written}
use Rattle.cb_written.proofs.laws.obligation_is_written.Goals as goal

pub returns : goal.returns
returns c = obligation_written
