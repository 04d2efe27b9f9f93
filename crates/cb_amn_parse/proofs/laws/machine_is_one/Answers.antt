use Rattle.cb_grammar.specs.declared.parts.Part.TheVariants as part
use Rattle.cb_amn_parse.specs.Machines.{machine_out}
use Rattle.cb_amn_parse.proofs.Once.{machine_once, same_out}
use Rattle.cb_amn_parse.proofs.laws.machine_is_one.Goals as goal

pub returns : goal.returns
returns c = λ depth opened ts taken x y p q. machine_once x y (same_out part.Machine depth opened ts taken (machine_out x) (machine_out y) p q)
