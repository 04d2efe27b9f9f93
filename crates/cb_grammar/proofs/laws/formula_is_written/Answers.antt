use Rattle.cb_grammar.specs.Numbers as part
use Rattle.cb_grammar.specs.Written.{FormulaLine}
use Rattle.cb_grammar.proofs.Lining.{written, formula_means}
use Rattle.cb_grammar.proofs.laws.formula_is_written.Goals as goal

pub returns : goal.returns
returns c = written part.formula FormulaLine formula_means
