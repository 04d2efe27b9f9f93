use Rattle.cb_written.proofs.ProofLines.{node_written}
use Rattle.cb_written.proofs.laws.node_is_written.Goals as goal

pub returns : goal.returns
returns c = node_written
