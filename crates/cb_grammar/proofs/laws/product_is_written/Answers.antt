use Rattle.cb_grammar.specs.Numbers as part
use Rattle.cb_grammar.specs.Written.{ProductLine}
use Rattle.cb_grammar.proofs.Lining.{written, product_means}
use Rattle.cb_grammar.proofs.laws.product_is_written.Goals as goal

pub returns : goal.returns
returns c = written part.product ProductLine product_means
