use Rattle.std.proofs.Common.{◌≡◌, ◌-◌, ◌++◌}
use Rattle.cb_check_sets.specs.SetRules.{each_element}
use Rattle.cb_check_sets.proofs.premises.each_element.Given as goal

abbrev pub invariant-loop-index : goal.invariant-loop-index
invariant-loop-index l = l.premises ++ each_element l.term l.set l.index (l.size - l.index) ≡ each_element l.term l.set 0 l.size
