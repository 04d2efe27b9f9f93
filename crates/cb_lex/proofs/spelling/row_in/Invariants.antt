use Rattle.std.proofs.Common.{◌≡◌, drop}
use Rattle.cb_lex.specs.SignRows.{row_in}
use Rattle.cb_lex.proofs.spelling.row_in.Given as goal

abbrev pub invariant-loop-row : goal.invariant-loop-row
invariant-loop-row l = row_in (drop l.row-index l.rows) l.bytes ≡ row_in l.rows l.bytes
