use Rattle.cb_lex.proofs.Once.{lexes_same}
use Rattle.cb_lex.proofs.laws.lexes_once.Goals as goal

pub returns : goal.returns
returns c = lexes_same
