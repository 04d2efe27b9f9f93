use Rattle.std.proofs.Common.{[], refl}
use Rattle.cb_seq.proofs.KindLemmas.{fits_closed}
use Rattle.cb_seq.proofs.laws.fitting_is_closed.Goals as goal

pub returns : goal.returns
returns c = λ sizes names f e. fits_closed sizes names f [] e 0 refl
