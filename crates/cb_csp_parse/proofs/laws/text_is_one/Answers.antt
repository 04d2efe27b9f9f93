use Rattle.cb_csp_parse.proofs.TextIsOne.{text_once}
use Rattle.cb_csp_parse.proofs.laws.text_is_one.Goals as goal

pub returns : goal.returns
returns c = λ ts taken x y a b p q. text_once ts taken x y a b p q
