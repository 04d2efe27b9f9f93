use Rattle.cb_typing.proofs.Terms as terms
use Rattle.cb_typing.proofs.laws.terms_are_typed.Goals as goal

pub returns : goal.returns
returns c = terms.terms_are_typed
