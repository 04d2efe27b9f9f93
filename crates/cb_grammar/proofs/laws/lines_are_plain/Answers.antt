use Rattle.cb_grammar.proofs.Lining as lining
use Rattle.cb_grammar.proofs.laws.lines_are_plain.Goals as goal

pub returns : goal.returns
returns c = lining.lines_are_plain
