-- What the code takes for a row. A row that is taken 0 times adds nothing, however large its numbers, so that the form 0 stands for
-- it. The clauses of private functions speak of these.
use Rattle.std.specs.Prelude.{ℕ, ℤ, pos, List, if◌then◌else◌, Option, Some, None}
use Rattle.std.specs.Ordering.{int_eq}
use Rattle.cb_lin.specs.Form.{Form, zero_form}
use Rattle.cb_lin.specs.Small.{small_form}
use Rattle.cb_seq.specs.declared.rule.Multiple.{Multiple}
use Rattle.cb_seq.specs.Validity.{Claim}
use Rattle.cb_check_numbers.specs.Linear.{named, row_taken}

-- the form, unless a number in it passes 2^100 in size
abbrev pub checked : Form → Option Form
checked f = if small_form f then Some f else None

-- what stands for a row that is taken so often. A row that is taken at all and is not small gives no sum
abbrev pub counted : ℤ → Option Form → Option Form
counted k None = None
counted k (Some f) = if int_eq k (pos 0) then Some zero_form else checked f

-- what stands for the row that the number names
abbrev pub multiple_counted : List ℕ → Claim → Multiple → Option Form
multiple_counted sizes q m = counted m.by (row_taken m.by (named sizes q m.row))
