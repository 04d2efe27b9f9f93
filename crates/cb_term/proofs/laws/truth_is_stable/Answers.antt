use Rattle.cb_term.proofs.LawLemmas.{truth_is_stable}
use Rattle.cb_term.proofs.laws.truth_is_stable.Goals as goal

pub returns : goal.returns
returns c = truth_is_stable
