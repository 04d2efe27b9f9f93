use Rattle.cb_grammar.specs.Numbers as part
use Rattle.cb_written.specs.Substitutions.{BoundLine}
use Rattle.cb_written.proofs.Pieces.{written}
use Rattle.cb_written.proofs.Domains.{bound_means}
use Rattle.cb_written.proofs.laws.bound_is_written.Goals as goal

pub returns : goal.returns
returns c = written part.bound BoundLine bound_means
