use Rattle.std.proofs.Common.{◌≡◌, drop, map}
use Rattle.cb_lin.specs.Form.{zero_form}
use Rattle.cb_lin.specs.Steps.{combine_from}
use Rattle.cb_lin.specs.Rows.{form_of, sum_of}
use Rattle.cb_lin.proofs.linear.combined.Given as goal

abbrev pub invariant-loop-i : goal.invariant-loop-i
invariant-loop-i l = combine_from zero_form (map form_of l.rows) l.multipliers ≡ combine_from (sum_of l.sum) (map form_of (drop l.i l.rows)) (drop l.i l.multipliers)
