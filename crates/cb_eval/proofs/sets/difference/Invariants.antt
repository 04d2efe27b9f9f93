use Rattle.std.proofs.Common.{◌≡◌, ◌++◌, drop}
use Rattle.cb_term.specs.Sets.{difference}
use Rattle.cb_eval.proofs.sets.difference.Given as goal

abbrev pub invariant-loop-x : goal.invariant-loop-x
invariant-loop-x l = l.rest.items ++ difference (drop l.x-index l.xs) l.ys ≡ difference l.xs l.ys
