use Rattle.std.proofs.Common.{[], refl}
use Rattle.cb_seq.proofs.KindLemmas.{kind_closed}
use Rattle.cb_seq.proofs.laws.terms_with_kinds_are_closed.Goals as goal

pub returns : goal.returns
returns c = λ sizes names t k e. kind_closed sizes names t [] k e 0 refl
