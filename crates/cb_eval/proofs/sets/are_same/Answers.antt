use Rattle.cb_eval.proofs.SetLemmas.{unlike_lengths}
use Rattle.cb_eval.proofs.sets.are_same.Goals as goal

pub returns-then-xs-ys : goal.returns-then-xs-ys
returns-then-xs-ys c = unlike_lengths _ _ c.if-xs-ys.true
