use Rattle.cb_term.proofs.LawLemmas.{free_names_decide}
use Rattle.cb_term.proofs.laws.free_names_decide.Goals as goal

pub returns : goal.returns
returns c = free_names_decide
