use Rattle.std.proofs.Common.{◌≡◌, [], drop}
use Rattle.cb_forms.specs.Faults.{least, first}
use Rattle.cb_text_laws.specs.ControllerFaults.{definition_names_fault}
use Rattle.cb_controls.proofs.definition.definition_names_fault.Given as goal

abbrev pub invariant-loop-definition : goal.invariant-loop-definition
invariant-loop-definition l = least l.fault (first (definition_names_fault l.seen (drop l.definition-index l.definitions))) ≡ first (definition_names_fault [] l.definitions)
