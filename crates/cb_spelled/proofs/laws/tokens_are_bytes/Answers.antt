use Rattle.cb_spelled.proofs.Bytes.{tokens_within}
use Rattle.cb_spelled.proofs.laws.tokens_are_bytes.Goals as goal

pub returns : goal.returns
returns c = tokens_within
