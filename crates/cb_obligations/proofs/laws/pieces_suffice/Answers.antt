use Rattle.cb_obligations.proofs.Cutting.{pieces_suffice}
use Rattle.cb_obligations.proofs.laws.pieces_suffice.Goals as goal

pub returns : goal.returns
returns c = pieces_suffice
