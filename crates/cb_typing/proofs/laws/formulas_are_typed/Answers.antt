use Rattle.cb_typing.proofs.Terms as terms
use Rattle.cb_typing.proofs.laws.formulas_are_typed.Goals as goal

pub returns : goal.returns
returns c = terms.formulas_are_typed
