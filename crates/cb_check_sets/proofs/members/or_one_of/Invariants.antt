use Rattle.std.proofs.Common.{◌≡◌, drop}
use Rattle.cb_term.specs.Tree.{trees_of}
use Rattle.cb_check_sets.specs.Members.{or_one_of}
use Rattle.cb_check_sets.proofs.members.or_one_of.Given as goal

abbrev pub invariant-loop-term : goal.invariant-loop-term
invariant-loop-term l = or_one_of l.says l.item (trees_of (drop l.term-index l.terms)) ≡ or_one_of l.fn.formula l.item (trees_of l.terms)
