use Rattle.cb_grammar.specs.Numbers as part
use Rattle.cb_grammar.specs.Written.{TermLine}
use Rattle.cb_grammar.proofs.Lining.{written}
use Rattle.cb_grammar.proofs.TermLining.{term_means}
use Rattle.cb_grammar.proofs.laws.term_is_written.Goals as goal

pub returns : goal.returns
returns c = written part.term TermLine term_means
