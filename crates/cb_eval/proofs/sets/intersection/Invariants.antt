use Rattle.std.proofs.Common.{◌≡◌, ◌++◌, drop}
use Rattle.cb_term.specs.Sets.{intersection}
use Rattle.cb_eval.proofs.sets.intersection.Given as goal

abbrev pub invariant-loop-x : goal.invariant-loop-x
invariant-loop-x l = l.both.items ++ intersection (drop l.x-index l.xs) l.ys ≡ intersection l.xs l.ys
