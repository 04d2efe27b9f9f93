use Rattle.cb_eval.proofs.ToldLemmas.{told_exactly}
use Rattle.cb_eval.proofs.laws.closed_truth_is_told.Goals as goal

pub returns : goal.returns
returns c = told_exactly
