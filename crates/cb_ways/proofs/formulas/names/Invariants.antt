use Rattle.std.proofs.Common.{◌≡◌, ◌++◌, drop}
use Rattle.cb_spec.specs.Bound as bound
use Rattle.cb_ways.proofs.formulas.names.Given as goal

abbrev pub invariant-loop-one : goal.invariant-loop-one
invariant-loop-one l = l.names ++ bound.names (drop l.one-index l.declared) ≡ bound.names l.declared
