use Rattle.cb_csp_parse.proofs.TextIsOne.{channels_once}
use Rattle.cb_csp_parse.proofs.laws.channels_are_one.Goals as goal

pub returns : goal.returns
returns c = λ depth opened ts taken x y p q. channels_once depth opened ts taken x y p q
