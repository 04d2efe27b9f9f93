use Rattle.std.proofs.Common.{◌≡◌, drop}
use Rattle.cb_forms.specs.Faults.{least, first}
use Rattle.cb_text_laws.specs.ControllerFaults.{plain_fault}
use Rattle.cb_controls.proofs.start.plain_fault.Given as goal

abbrev pub invariant-loop-argument : goal.invariant-loop-argument
invariant-loop-argument l = least l.fault (first (plain_fault l.names (drop l.argument-index l.arguments))) ≡ first (plain_fault l.names l.arguments)
