use Rattle.cb_term.proofs.LawLemmas.{same_hold_alike}
use Rattle.cb_term.proofs.laws.same_hold_alike.Goals as goal

pub returns : goal.returns
returns c = same_hold_alike
