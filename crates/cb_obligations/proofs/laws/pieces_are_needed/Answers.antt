use Rattle.cb_obligations.proofs.Cutting.{pieces_needed}
use Rattle.cb_obligations.proofs.laws.pieces_are_needed.Goals as goal

pub returns : goal.returns
returns c = pieces_needed
