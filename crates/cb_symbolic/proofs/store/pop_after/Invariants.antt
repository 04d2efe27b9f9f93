use Rattle.std.proofs.Common.{◌≡◌, ◌++◌, length, take, drop, reverse}
use Rattle.cb_symbolic.proofs.store.pop_after.Given as goal

abbrev pub invariant-loop-items : goal.invariant-loop-items
invariant-loop-items g l = record {
  rest : take l.at l.items ≡ take l.at l.initial.items;
  part : drop l.at l.items ++ reverse l.last_first ≡ drop l.at l.initial.items;
}

abbrev pub decreases-loop-items : goal.decreases-loop-items
decreases-loop-items g l = length l.items
