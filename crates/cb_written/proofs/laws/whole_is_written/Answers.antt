use Rattle.cb_grammar.specs.Numbers as part
use Rattle.cb_written.specs.Texts.{WholeLine}
use Rattle.cb_written.proofs.Pieces.{written}
use Rattle.cb_written.proofs.Texts.{whole_means}
use Rattle.cb_written.proofs.laws.whole_is_written.Goals as goal

pub returns : goal.returns
returns c = written part.whole WholeLine whole_means
