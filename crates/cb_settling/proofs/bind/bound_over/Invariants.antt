use Rattle.cb_spec.specs.Stores.{look_of}
use Rattle.cb_settling.proofs.BindLemmas.{BoundFrom}
use Rattle.cb_settling.proofs.bind.bound_over.Given as goal

-- the last names have the last values
abbrev pub invariant-loop-left : goal.invariant-loop-left
invariant-loop-left l = BoundFrom l.names l.values (look_of l.fn.store) l.bound l.left

abbrev pub decreases-loop-left : goal.decreases-loop-left
decreases-loop-left l = l.left
