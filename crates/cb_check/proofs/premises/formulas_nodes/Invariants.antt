use Rattle.std.proofs.Common.{◌≡◌, ◌+◌, ◌-◌, ◌≤◌, drop}
use Rattle.std.specs.Prelude.{◌^◌}
use Rattle.cb_check.specs.Derives.{formulas_nodes}
use Rattle.cb_check.specs.Ways.{capped}
use Rattle.cb_check.proofs.premises.formulas_nodes.Given as goal

abbrev pub invariant-loop-formula : goal.invariant-loop-formula
invariant-loop-formula l = (l.count ≤ 2 ^ 64 - 1) × (capped (l.count + formulas_nodes (drop l.formula-index l.formulas)) ≡ capped (formulas_nodes l.formulas))
