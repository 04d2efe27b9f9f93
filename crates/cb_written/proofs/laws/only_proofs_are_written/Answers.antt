use Rattle.cb_written.proofs.ProofLines.{only_proofs_written}
use Rattle.cb_written.proofs.laws.only_proofs_are_written.Goals as goal

pub returns : goal.returns
returns c = only_proofs_written
