use Rattle.cb_grammar.specs.Numbers as part
use Rattle.cb_written.specs.Texts.{TextLine}
use Rattle.cb_written.proofs.Pieces.{written}
use Rattle.cb_written.proofs.Texts.{text_means}
use Rattle.cb_written.proofs.laws.text_is_written.Goals as goal

pub returns : goal.returns
returns c = written part.text TextLine text_means
