use Rattle.std.proofs.Common.{◌≡◌, ◌++◌, length, reverse}
use Rattle.cb_symbolic.proofs.store.reversed.Given as goal

abbrev pub invariant-loop-last : goal.invariant-loop-last
invariant-loop-last g l = l.made ++ reverse l.items ≡ reverse l.initial.items

abbrev pub decreases-loop-last : goal.decreases-loop-last
decreases-loop-last g l = length l.items
