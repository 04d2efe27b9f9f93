use Rattle.std.specs.Prelude.{◌≡◌, drop}
use Rattle.cb_term.specs.Tree.{trees_of}
use Rattle.cb_seq.specs.Clear.{all_are_clear}
use Rattle.cb_seq.proofs.clear.+clear.Given as goal

abbrev pub invariant-term_is_clear-loop-item : goal.invariant-term_is_clear-loop-item
invariant-term_is_clear-loop-item l = all_are_clear (trees_of (drop l.item-index l.item-items)) ≡ all_are_clear (trees_of l.item-items)
