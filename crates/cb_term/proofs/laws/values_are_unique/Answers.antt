use Rattle.cb_term.proofs.LawLemmas.{values_are_unique}
use Rattle.cb_term.proofs.laws.values_are_unique.Goals as goal

pub returns : goal.returns
returns c = values_are_unique
