use Rattle.cb_seq.proofs.KindLemmas.{fits_not_free}
use Rattle.cb_seq.proofs.laws.fitting_names_have_kinds.Goals as goal

pub returns : goal.returns
returns c = λ sizes names ks f x e free none. fits_not_free sizes names x none f ks e free
