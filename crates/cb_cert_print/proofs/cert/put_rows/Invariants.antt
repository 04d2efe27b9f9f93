use Rattle.std.proofs.Common.{◌≡◌, ◌++◌, drop, true}
use Rattle.cb_cert_print.specs.Proofs.{rows_text}
use Rattle.cb_cert_print.proofs.cert.put_rows.Given as goal

abbrev pub invariant-loop-row : goal.invariant-loop-row
invariant-loop-row l = l.out.items ++ rows_text l.first (drop l.row-index l.rows) ≡ l.initial.out.items ++ rows_text true l.rows
