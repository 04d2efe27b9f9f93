use Rattle.std.proofs.Common.{◌≡◌, drop}
use Rattle.cb_forms.specs.Faults.{least, first}
use Rattle.cb_text_laws.specs.ControllerFaults.{params_fault}
use Rattle.cb_controls.proofs.parameters.params_fault.Given as goal

abbrev pub invariant-loop-param : goal.invariant-loop-param
invariant-loop-param l = least l.fault (first (params_fault l.view l.names (drop l.param-index l.params))) ≡ first (params_fault l.view l.names l.params)
