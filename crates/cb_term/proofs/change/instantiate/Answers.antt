use Rattle.cb_term.proofs.LawLemmas.{law_inside}
use Rattle.cb_term.proofs.change.instantiate.Goals as goal

pub returns-clause-truth : goal.returns-clause-truth
returns-clause-truth c = law_inside _ _ _ c.change_formula.ensures
