use Rattle.std.proofs.Common.{◌≡◌, ◌++◌, drop}
use Rattle.cb_wp.proofs.sequents.copy_formulas.Given as goal

abbrev pub invariant-loop-formula : goal.invariant-loop-formula
invariant-loop-formula l = l.copies.items ++ drop l.formula-index l.formulas ≡ l.formulas
