use Rattle.cb_grammar.specs.declared.parts.Part.TheVariants as part
use Rattle.cb_amn_parse.specs.Proofs.{proofs_out}
use Rattle.cb_amn_parse.proofs.Once.{proofs_once, same_out}
use Rattle.cb_amn_parse.proofs.laws.proofs_are_one.Goals as goal

pub returns : goal.returns
returns c = λ depth opened ts taken x y p q. proofs_once x y (same_out part.Proofs depth opened ts taken (proofs_out x) (proofs_out y) p q)
