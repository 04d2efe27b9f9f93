use Rattle.cb_grammar.specs.Numbers as part
use Rattle.cb_grammar.specs.Written.{PartLine}
use Rattle.cb_grammar.proofs.Lining.{written, part_means}
use Rattle.cb_grammar.proofs.laws.part_is_written.Goals as goal

pub returns : goal.returns
returns c = written part.part PartLine part_means
