-- One argument, with the form of what it is given to where there is one.
use Rattle.std.specs.Prelude.{false, Option, Some, None}
use Rattle.cb_lex.specs.RawTermTree.{RawTermTree}
use Rattle.cb_forms.specs.declared.form.Form.{Form as Known}
use Rattle.cb_forms.specs.Faults.{Faults}
use Rattle.cb_judge.specs.declared.names.View.{View}
use Rattle.cb_judge.specs.Meanings.{Names}
use Rattle.cb_judge.specs.Judged.{fault_in}
use Rattle.cb_text_laws.specs.ProcessFaults.{argument_fault}

abbrev pub given_fault : View → Names → Option Known → RawTermTree → Faults
given_fault v names None t = fault_in v names false t
given_fault v names (Some f) t = argument_fault v names f t
