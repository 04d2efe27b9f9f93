use Rattle.cb_grammar.specs.Numbers as part
use Rattle.cb_grammar.specs.Written.{SumLine}
use Rattle.cb_grammar.proofs.Lining.{written, sum_means}
use Rattle.cb_grammar.proofs.laws.sum_is_written.Goals as goal

pub returns : goal.returns
returns c = written part.sum SumLine sum_means
