use Rattle.cb_term.proofs.LawLemmas.{change_keeps_value}
use Rattle.cb_term.proofs.laws.change_keeps_value.Goals as goal

pub returns : goal.returns
returns c = change_keeps_value
