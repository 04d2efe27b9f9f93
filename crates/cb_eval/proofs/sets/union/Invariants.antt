use Rattle.std.proofs.Common.{◌≡◌, ◌≤◌, length, drop}
use Rattle.cb_term.specs.Sets.{IsAscending, union}
use Rattle.cb_eval.proofs.sets.union.Given as goal

abbrev pub invariant-loop-left : goal.invariant-loop-left
invariant-loop-left l = (l.left ≤ length l.xs) × IsAscending l.all.items × (l.all.items ≡ union (drop l.left l.xs) l.ys)

abbrev pub decreases-loop-left : goal.decreases-loop-left
decreases-loop-left l = l.left
