use Rattle.cb_term.proofs.LawLemmas.{law_at_name}
use Rattle.cb_term.proofs.change.substitute.Goals as goal

pub returns-clause-truth : goal.returns-clause-truth
returns-clause-truth c = law_at_name _ _ _ _ c.change_formula.ensures
