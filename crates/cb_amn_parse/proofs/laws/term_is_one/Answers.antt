use Rattle.cb_grammar.specs.declared.parts.Part.TheVariants as part
use Rattle.cb_amn_parse.specs.Formulas.{term_out}
use Rattle.cb_amn_parse.proofs.Once.{term_once, same_out}
use Rattle.cb_amn_parse.proofs.laws.term_is_one.Goals as goal

pub returns : goal.returns
returns c = λ depth opened ts taken x y p q. term_once x y (same_out part.Term depth opened ts taken (term_out x) (term_out y) p q)
