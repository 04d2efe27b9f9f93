use Rattle.cb_grammar.specs.Numbers as part
use Rattle.cb_written.specs.Units.{UnitLine}
use Rattle.cb_written.proofs.Pieces.{written}
use Rattle.cb_written.proofs.Units.{unit_means}
use Rattle.cb_written.proofs.laws.unit_is_written.Goals as goal

pub returns : goal.returns
returns c = written part.unit UnitLine unit_means
