use Rattle.cb_forms.proofs.Cuts.{cut_exact}
use Rattle.cb_forms.proofs.laws.cut_is_exact.Goals as goal

pub returns : goal.returns
returns c = cut_exact
