use Rattle.std.proofs.Common.{◌≡◌, ◌++◌, drop}
use Rattle.cb_wp.proofs.branches.copy_items.Given as goal

abbrev pub invariant-loop-item : goal.invariant-loop-item
invariant-loop-item l = l.copies ++ drop l.item-index l.items ≡ l.items
