use Rattle.cb_written.proofs.ProofLines.{before_proofs_written}
use Rattle.cb_written.proofs.laws.before_proofs_is_written.Goals as goal

pub returns : goal.returns
returns c = before_proofs_written
