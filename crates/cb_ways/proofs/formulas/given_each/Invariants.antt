use Rattle.std.proofs.Common.{◌≡◌, ◌++◌, drop}
use Rattle.cb_spec.specs.Bound.{result_names}
use Rattle.cb_conditions.specs.Reading.{given_each}
use Rattle.cb_ways.proofs.formulas.given_each.Given as goal

abbrev pub invariant-loop-one : goal.invariant-loop-one
invariant-loop-one l = l.terms ++ given_each l.writes (result_names (drop l.one-index l.results)) ≡ given_each l.writes (result_names l.results)
