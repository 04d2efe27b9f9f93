use Rattle.cb_grammar.specs.Numbers as part
use Rattle.cb_grammar.specs.Written.{ProcessLine}
use Rattle.cb_grammar.proofs.Lining.{written, process_means}
use Rattle.cb_grammar.proofs.laws.process_is_written.Goals as goal

pub returns : goal.returns
returns c = written part.process ProcessLine process_means
