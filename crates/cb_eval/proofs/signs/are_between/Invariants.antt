use Rattle.std.proofs.Common.{◌≡◌, drop}
use Rattle.cb_term.specs.Sets.{is_subset, range}
use Rattle.cb_eval.proofs.signs.are_between.Given as goal

abbrev pub invariant-loop-item : goal.invariant-loop-item
invariant-loop-item l = is_subset (drop l.item-index l.items) (range l.x l.y) ≡ is_subset l.items (range l.x l.y)
