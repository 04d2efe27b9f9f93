use Rattle.cb_seq.proofs.KindSound.{kind_sound}
use Rattle.cb_seq.proofs.laws.values_have_kinds.Goals as goal

pub returns : goal.returns
returns c = λ sizes look names ks env t k gives of e. kind_sound sizes look names gives t ks env k e of
