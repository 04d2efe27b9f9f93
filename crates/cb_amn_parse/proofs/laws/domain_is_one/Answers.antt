use Rattle.cb_grammar.specs.declared.parts.Part.TheVariants as part
use Rattle.cb_amn_parse.specs.Machines.{domain_out}
use Rattle.cb_amn_parse.proofs.Once.{domain_once, same_out}
use Rattle.cb_amn_parse.proofs.laws.domain_is_one.Goals as goal

pub returns : goal.returns
returns c = λ depth opened ts taken x y p q. domain_once x y (same_out part.Domain depth opened ts taken (domain_out x) (domain_out y) p q)
