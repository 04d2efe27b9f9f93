use Rattle.cb_settling.specs.Ops.{ClearedFrom}
use Rattle.cb_settling.proofs.op.clear.Given as goal

-- the last parameters stand for 0
abbrev pub invariant-loop-left : goal.invariant-loop-left
invariant-loop-left l = ClearedFrom l.params l.fn.store l.store l.left

abbrev pub decreases-loop-left : goal.decreases-loop-left
decreases-loop-left l = l.left
