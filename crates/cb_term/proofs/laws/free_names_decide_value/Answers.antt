use Rattle.cb_term.proofs.LawLemmas.{free_names_decide_value}
use Rattle.cb_term.proofs.laws.free_names_decide_value.Goals as goal

pub returns : goal.returns
returns c = free_names_decide_value
