use Rattle.cb_grammar.specs.Numbers as part
use Rattle.cb_written.specs.Substitutions.{SimpleLine}
use Rattle.cb_written.proofs.Pieces.{written}
use Rattle.cb_written.proofs.Simple.{simple_means}
use Rattle.cb_written.proofs.laws.simple_is_written.Goals as goal

pub returns : goal.returns
returns c = written part.simple SimpleLine simple_means
