use Rattle.std.proofs.Common.{◌≡◌, drop}
use Rattle.cb_term.specs.Sets.{is_subset}
use Rattle.cb_eval.proofs.sets.is_subset.Given as goal

abbrev pub invariant-loop-x : goal.invariant-loop-x
invariant-loop-x l = is_subset (drop l.x-index l.xs) l.ys ≡ is_subset l.xs l.ys
