use Rattle.cb_grammar.specs.Numbers as part
use Rattle.cb_grammar.specs.Written.{SubstitutionLine}
use Rattle.cb_grammar.proofs.Lining.{written, substitution_means}
use Rattle.cb_grammar.proofs.laws.substitution_is_written.Goals as goal

pub returns : goal.returns
returns c = written part.substitution SubstitutionLine substitution_means
