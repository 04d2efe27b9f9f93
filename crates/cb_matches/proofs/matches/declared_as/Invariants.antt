use Rattle.std.proofs.Common.{◌≡◌, ◌++◌, drop}
use Rattle.cb_conditions.specs.Conditions.{declared_as}
use Rattle.cb_matches.proofs.matches.declared_as.Given as goal

abbrev pub invariant-loop-i : goal.invariant-loop-i
invariant-loop-i l = l.declared.items ++ declared_as (drop l.i l.names) (drop l.i l.values) ≡ declared_as l.names l.values
