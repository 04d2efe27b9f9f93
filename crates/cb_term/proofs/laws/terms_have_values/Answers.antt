use Rattle.cb_term.proofs.LawLemmas.{terms_have_values}
use Rattle.cb_term.proofs.laws.terms_have_values.Goals as goal

pub returns : goal.returns
returns c = terms_have_values
