use Rattle.std.proofs.Common.{◌≡◌, ◌-◌, drop}
use Rattle.cb_eval.specs.Evaluation.{is_ascending}
use Rattle.cb_eval.proofs.widen.ascends.Given as goal

abbrev pub invariant-loop-at : goal.invariant-loop-at
invariant-loop-at l = is_ascending l.items ≡ is_ascending (drop (l.at - 1) l.items)
