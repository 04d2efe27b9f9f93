use Rattle.std.proofs.Common.{◌≡◌, ◌∙◌, Some, None, ap, map}
use Rattle.cb_lin.specs.Form.{zero_form}
use Rattle.cb_lin.specs.Steps.{combine_from}
use Rattle.cb_lin.specs.Rows.{form_of, sum_of}
use Rattle.cb_lin.proofs.ExactForms.{rows_exact, rows_keep_all}
use Rattle.cb_lin.proofs.linear.combine.Goals as goal

pub row_of-requires-clause-apart : goal.row_of-requires-clause-apart
row_of-requires-clause-apart c =
    let e : Some (sum_of c.in-Some.sum) ≡ combine_from zero_form (map form_of c.args.rows.now) c.args.multipliers.now = rw c.in-Some.is at c.in_ok-sum.ensures in
    (rows_keep_all c.args.rows.now c.args.multipliers.now (sum_of c.in-Some.sum) e).0

pub row_of-requires-clause-nonzero : goal.row_of-requires-clause-nonzero
row_of-requires-clause-nonzero c =
    let e : Some (sum_of c.in-Some.sum) ≡ combine_from zero_form (map form_of c.args.rows.now) c.args.multipliers.now = rw c.in-Some.is at c.in_ok-sum.ensures in
    (rows_keep_all c.args.rows.now c.args.multipliers.now (sum_of c.in-Some.sum) e).1

pub row_of-requires-clause-small : goal.row_of-requires-clause-small
row_of-requires-clause-small c =
    let e : Some (sum_of c.in-Some.sum) ≡ combine_from zero_form (map form_of c.args.rows.now) c.args.multipliers.now = rw c.in-Some.is at c.in_ok-sum.ensures in
    (rows_keep_all c.args.rows.now c.args.multipliers.now (sum_of c.in-Some.sum) e).2

pub returns-in-Some : goal.returns-in-Some
returns-in-Some c =
    let e : Some (sum_of c.in-Some.sum) ≡ combine_from zero_form (map form_of c.args.rows.now) c.args.multipliers.now = rw c.in-Some.is at c.in_ok-sum.ensures in
    ap Some c.row_of.ensures ∙ e ∙ rows_exact c.args.rows.now c.args.multipliers.now

pub returns-in-None : goal.returns-in-None
returns-in-None c =
    let e : None ≡ combine_from zero_form (map form_of c.args.rows.now) c.args.multipliers.now = rw c.in-None.is at c.in_ok-sum.ensures in
    e ∙ rows_exact c.args.rows.now c.args.multipliers.now
