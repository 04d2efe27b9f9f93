use Rattle.std.proofs.Common.{◌≡◌, length}
use Rattle.cb_wp.proofs.LiveLemmas.{and_onto}
use Rattle.cb_wp.proofs.transform.and_all.Given as goal

abbrev pub invariant-loop-last : goal.invariant-loop-last
invariant-loop-last l = and_onto l.left l.whole ≡ and_onto l.initial.left l.initial.whole

abbrev pub decreases-loop-last : goal.decreases-loop-last
decreases-loop-last l = length l.left
