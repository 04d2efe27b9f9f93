use Rattle.std.proofs.Common.{◌≡◌, ◌++◌, drop}
use Rattle.cb_check.proofs.walk.Way.new.Given as goal

abbrev pub invariant-loop-named : goal.invariant-loop-named
invariant-loop-named l = l.names.items ++ drop l.named-index l.named-items ≡ l.sequent.names.items

abbrev pub invariant-loop-formula : goal.invariant-loop-formula
invariant-loop-formula l = l.hypotheses ++ drop l.formula-index l.formula-items ≡ l.sequent.hypotheses.items
