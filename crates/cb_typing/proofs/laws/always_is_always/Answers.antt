use Rattle.cb_typing.proofs.Writing as writing
use Rattle.cb_typing.proofs.laws.always_is_always.Goals as goal

pub returns : goal.returns
returns c = writing.always_is_always
