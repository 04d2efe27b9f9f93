use Rattle.std.proofs.Common.{◌≡◌, drop}
use Rattle.cb_forms.specs.Faults.{least, first}
use Rattle.cb_text_laws.specs.ControllerFaults.{definitions_fault}
use Rattle.cb_texts.proofs.controllers.definitions_fault.Given as goal

abbrev pub invariant-loop-definition : goal.invariant-loop-definition
invariant-loop-definition l =
    (least l.fault (first (definitions_fault l.around.known.now l.fn.names l.around.machines.now l.around.channels.now l.around.own.now l.around.definitions.now l.number (drop l.definition-index l.definitions)))
    ≡ first (definitions_fault l.around.known.now l.fn.names l.around.machines.now l.around.channels.now l.around.own.now l.around.definitions.now 0 l.definitions))
    × (l.names ≡ l.fn.names)
    × (l.globals ≡ l.fn.globals)
