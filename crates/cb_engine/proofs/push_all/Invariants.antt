use Rattle.std.proofs.Common.{◌≡◌, ◌≤◌, ◌++◌, drop, reverse, length}
use Rattle.cb_engine.proofs.push_all.Given as goal

abbrev pub invariant-loop-left : goal.invariant-loop-left
invariant-loop-left l = (l.left ≤ length l.symbols) × (reverse l.stack.items ≡ drop l.left l.symbols ++ reverse l.fn.stack.items)

abbrev pub decreases-loop-left : goal.decreases-loop-left
decreases-loop-left l = l.left
