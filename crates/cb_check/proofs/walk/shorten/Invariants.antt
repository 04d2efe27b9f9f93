use Rattle.std.proofs.Common.{◌≡◌, take, length}
use Rattle.cb_check.proofs.walk.shorten.Given as goal

abbrev pub decreases-loop-formulas : goal.decreases-loop-formulas
decreases-loop-formulas l = length l.formulas

abbrev pub invariant-loop-formulas : goal.invariant-loop-formulas
invariant-loop-formulas l = take l.kept l.formulas ≡ take l.kept l.fn.formulas
