use Rattle.cb_seq.proofs.KindLemmas.{kind_not_free}
use Rattle.cb_seq.proofs.laws.names_of_terms_have_kinds.Goals as goal

pub returns : goal.returns
returns c = λ sizes names ks t k x e free none. kind_not_free sizes names x none t ks k e free
