use Rattle.cb_typing.proofs.Substs as substs
use Rattle.cb_typing.proofs.laws.substs_are_typed.Goals as goal

pub returns : goal.returns
returns c = substs.substs_are_typed
