use Rattle.cb_settling.specs.Ops.{WrittenFrom}
use Rattle.cb_settling.proofs.op.replace_all.Given as goal

-- the last entries are written
abbrev pub invariant-loop-left : goal.invariant-loop-left
invariant-loop-left l = WrittenFrom l.entries l.fn.store l.store l.values l.left

abbrev pub decreases-loop-left : goal.decreases-loop-left
decreases-loop-left l = l.left
