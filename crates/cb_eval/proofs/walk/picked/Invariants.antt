use Rattle.std.proofs.Common.{◌≡◌, ◌++◌, ◌-◌, ◌+ℤ◌, pos}
use Rattle.cb_eval.specs.Walks.{picked}
use Rattle.cb_eval.proofs.walk.picked.Given as goal

abbrev pub invariant-loop-i : goal.invariant-loop-i
invariant-loop-i l = l.items.items ++ picked (l.first +ℤ pos l.i) (l.count - l.i) l.bits ≡ picked l.first l.count l.number
