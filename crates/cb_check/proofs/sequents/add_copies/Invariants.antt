use Rattle.std.proofs.Common.{◌≡◌, ◌++◌, drop}
use Rattle.cb_check.proofs.sequents.add_copies.Given as goal

abbrev pub invariant-loop-formula : goal.invariant-loop-formula
invariant-loop-formula l = l.all.items ++ drop l.formula-index l.formulas ≡ l.fn.all.items ++ l.formulas
