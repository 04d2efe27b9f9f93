use Rattle.std.proofs.Common.{◌≡◌, ◌++◌, drop}
use Rattle.cb_conditions.specs.Conditions.{vars}
use Rattle.cb_ways.proofs.formulas.vars.Given as goal

abbrev pub invariant-loop-input : goal.invariant-loop-input
invariant-loop-input l = l.terms ++ vars (drop l.input-index l.inputs) ≡ vars l.inputs
