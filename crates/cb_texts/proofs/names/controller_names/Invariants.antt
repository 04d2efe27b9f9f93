use Rattle.std.proofs.Common.{◌≡◌, drop}
use Rattle.cb_forms.specs.Faults.{least, first}
use Rattle.cb_text_laws.specs.TextNames.{with_controllers, controller_names_fault}
use Rattle.cb_texts.proofs.names.controller_names.Given as goal

abbrev pub invariant-loop-controller : goal.invariant-loop-controller
invariant-loop-controller l =
    (with_controllers l.number l.names (drop l.controller-index l.controllers) ≡ with_controllers 0 l.fn.names l.controllers)
    × (least l.fault (first (controller_names_fault l.number l.names (drop l.controller-index l.controllers))) ≡ first (controller_names_fault 0 l.fn.names l.controllers))
