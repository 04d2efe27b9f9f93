use Rattle.cb_written.proofs.ProofLines.{proofs_written}
use Rattle.cb_written.proofs.laws.proofs_are_written.Goals as goal

pub returns : goal.returns
returns c = proofs_written
