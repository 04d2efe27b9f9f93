use Rattle.cb_beginning.proofs.InitialLemmas.{WrittenFrom}
use Rattle.cb_beginning.proofs.initial.write_over.Given as goal

-- the last entries are written
abbrev pub invariant-loop-left : goal.invariant-loop-left
invariant-loop-left l = WrittenFrom l.entries l.fn.store l.store l.left

abbrev pub decreases-loop-left : goal.decreases-loop-left
decreases-loop-left l = l.left
