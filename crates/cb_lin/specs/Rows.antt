-- The forms that rows and sums stand for.
use Rattle.std.specs.Prelude.{Option, Some, None}
use Rattle.cb_lin.specs.declared.row.Row.{Row}
use Rattle.cb_lin.specs.declared.sum.Sum.{Sum}
use Rattle.cb_lin.specs.Form.{Form}

abbrev pub form_of : Row → Form
form_of r = record { parts = r.parts.items; constant = r.constant }

abbrev pub opt_form : Option Row → Option Form
opt_form None = None
opt_form (Some r) = Some (form_of r)

abbrev pub sum_of : Sum → Form
sum_of s = record { parts = s.parts.items; constant = s.constant }

abbrev pub opt_sum : Option Sum → Option Form
opt_sum None = None
opt_sum (Some s) = Some (sum_of s)
