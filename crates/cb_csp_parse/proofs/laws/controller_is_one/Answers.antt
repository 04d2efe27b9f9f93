use Rattle.cb_csp_parse.proofs.TextIsOne.{controller_once}
use Rattle.cb_csp_parse.proofs.laws.controller_is_one.Goals as goal

pub returns : goal.returns
returns c = λ depth opened ts taken x y p q. controller_once depth opened ts taken x y p q
