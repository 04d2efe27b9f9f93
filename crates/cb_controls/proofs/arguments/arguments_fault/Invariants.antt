use Rattle.std.proofs.Common.{◌≡◌, drop}
use Rattle.cb_forms.specs.Faults.{least, first}
use Rattle.cb_text_laws.specs.ProcessFaults.{arguments_fault}
use Rattle.cb_controls.proofs.arguments.arguments_fault.Given as goal

abbrev pub invariant-loop-i : goal.invariant-loop-i
invariant-loop-i l =
    (least l.fault (first (arguments_fault l.view l.fn.names (drop l.i l.forms) (drop l.i l.arguments))) ≡ first (arguments_fault l.view l.fn.names l.forms l.arguments))
    × (l.names ≡ l.fn.names)
