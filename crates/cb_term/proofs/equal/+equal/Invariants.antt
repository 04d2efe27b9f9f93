use Rattle.std.proofs.Common.{◌≡◌, drop}
use Rattle.cb_term.specs.Tree.{trees_of}
use Rattle.cb_term.specs.Same.{same_terms}
use Rattle.cb_term.proofs.equal.+equal.Given as goal

abbrev pub invariant-equal_terms-loop-i : goal.invariant-equal_terms-loop-i
invariant-equal_terms-loop-i l = same_terms (trees_of (drop l.i l.term-items)) (trees_of (drop l.i l.others)) ≡ same_terms (trees_of l.term-items) (trees_of l.others)
