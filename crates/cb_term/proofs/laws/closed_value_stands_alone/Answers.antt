use Rattle.cb_term.proofs.LawLemmas.{closed_value_stands_alone}
use Rattle.cb_term.proofs.laws.closed_value_stands_alone.Goals as goal

pub returns : goal.returns
returns c = closed_value_stands_alone
