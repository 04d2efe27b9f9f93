use Rattle.std.proofs.Common.{◌≡◌, drop}
use Rattle.cb_spec.specs.Bound.{is_among, names}
use Rattle.cb_ways.proofs.formulas.is_among.Given as goal

abbrev pub invariant-loop-one : goal.invariant-loop-one
invariant-loop-one l = is_among l.name (names (drop l.one-index l.declared)) ≡ is_among l.name (names l.declared)
