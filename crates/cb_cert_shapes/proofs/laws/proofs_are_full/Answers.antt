use Rattle.cb_cert_shapes.proofs.Proofs.{proofs_full}
use Rattle.cb_cert_shapes.proofs.laws.proofs_are_full.Goals as goal

pub returns : goal.returns
returns c = proofs_full
