use Rattle.std.proofs.Common.{◌≡◌, take}
use Rattle.cb_eval.proofs.widen.narrowed.Given as goal

abbrev pub invariant-loop-item : goal.invariant-loop-item
invariant-loop-item l = l.narrow ≡ take l.item-index l.item-items
