use Rattle.std.proofs.Common.{◌≡◌, map, drop, length}
use Rattle.cb_term.specs.Table.{sizes_of}
use Rattle.cb_lin.specs.Rows.{form_of}
use Rattle.cb_seq.specs.Premises.{claim_at}
use Rattle.cb_check_numbers.proofs.RowSteps.{prepend, rows_counted}
use Rattle.cb_check_numbers.proofs.linear.rows_taken.Given as goal

abbrev pub invariant-loop-multiple : goal.invariant-loop-multiple
invariant-loop-multiple l = record {
  rows : prepend (map form_of l.rows.items) (rows_counted (sizes_of l.sets) (claim_at l.sequent) (drop l.multiple-index l.multiples)) ≡ rows_counted (sizes_of l.sets) (claim_at l.sequent) l.multiples;
  all : length l.rows.items ≡ l.multiple-index;
}
