use Rattle.cb_term.proofs.LawLemmas.{same_have_same_value}
use Rattle.cb_term.proofs.laws.same_have_same_value.Goals as goal

pub returns : goal.returns
returns c = same_have_same_value
