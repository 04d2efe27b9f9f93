use Rattle.std.proofs.Common.{◌≡◌, ◌+◌, ◌≤◌, min, drop}
use Rattle.cb_wp.specs.Limits.{formulas_nodes}
use Rattle.cb_wp.proofs.sequents.all_nodes.Given as goal

abbrev pub invariant-loop-formula : goal.invariant-loop-formula
invariant-loop-formula l = record {
  same : min (l.sum + formulas_nodes (drop l.formula-index l.formulas)) 18446744073709551615
      ≡ min (formulas_nodes l.formulas) 18446744073709551615;
  fits : l.sum ≤ 18446744073709551615;
}
