use Rattle.std.proofs.Common.{◌≡◌, drop}
use Rattle.cb_forms.specs.Faults.{least, first}
use Rattle.cb_text_laws.specs.ControllerFaults.{controllers_fault}
use Rattle.cb_texts.proofs.controllers.controllers_fault.Given as goal

abbrev pub invariant-loop-controller : goal.invariant-loop-controller
invariant-loop-controller l =
    (least l.fault (first (controllers_fault l.outside.known.now l.fn.names l.outside.machines.now l.outside.channels.now (drop l.controller-index l.controllers)))
    ≡ first (controllers_fault l.outside.known.now l.fn.names l.outside.machines.now l.outside.channels.now l.controllers))
    × (l.names ≡ l.fn.names)
    × (l.globals ≡ l.fn.globals)
