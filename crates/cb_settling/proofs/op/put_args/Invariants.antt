use Rattle.cb_settling.specs.Ops.{PutFrom}
use Rattle.cb_settling.proofs.op.put_args.Given as goal

-- the last parameters have the last arguments' values
abbrev pub invariant-loop-left : goal.invariant-loop-left
invariant-loop-left l = PutFrom l.params l.args l.fn.store l.store l.left

abbrev pub decreases-loop-left : goal.decreases-loop-left
decreases-loop-left l = l.left
