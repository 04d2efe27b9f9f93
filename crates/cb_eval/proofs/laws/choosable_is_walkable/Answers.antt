use Rattle.cb_eval.proofs.TypedLemmas.{choosable_walks}
use Rattle.cb_eval.proofs.laws.choosable_is_walkable.Goals as goal

pub returns : goal.returns
returns c = λ sizes d few i c. choosable_walks sizes few d i c
