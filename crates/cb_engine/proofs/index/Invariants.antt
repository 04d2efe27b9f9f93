use Rattle.std.proofs.Common.{◌≤◌, length}
use Rattle.cb_engine.specs.Indexed.{IsIndexFrom}
use Rattle.cb_engine.proofs.index.Given as goal

abbrev pub invariant-loop-left : goal.invariant-loop-left
invariant-loop-left l = (l.left ≤ length l.grammar) × IsIndexFrom l.grammar l.left l.places.items

abbrev pub decreases-loop-left : goal.decreases-loop-left
decreases-loop-left l = l.left
