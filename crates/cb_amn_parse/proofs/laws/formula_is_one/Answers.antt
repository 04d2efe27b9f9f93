use Rattle.cb_grammar.specs.declared.parts.Part.TheVariants as part
use Rattle.cb_amn_parse.specs.Formulas.{formula_out}
use Rattle.cb_amn_parse.proofs.Once.{formula_once, same_out}
use Rattle.cb_amn_parse.proofs.laws.formula_is_one.Goals as goal

pub returns : goal.returns
returns c = λ depth opened ts taken x y p q. formula_once x y (same_out part.Formula depth opened ts taken (formula_out x) (formula_out y) p q)
