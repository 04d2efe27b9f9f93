use Rattle.std.proofs.Common.{◌≡◌, drop}
use Rattle.cb_term.specs.Sets.{same_items}
use Rattle.cb_eval.proofs.sets.are_same.Given as goal

abbrev pub invariant-loop-i : goal.invariant-loop-i
invariant-loop-i l = same_items l.xs l.ys ≡ same_items (drop l.i l.xs) (drop l.i l.ys)
