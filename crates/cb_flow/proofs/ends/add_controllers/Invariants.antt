use Rattle.std.proofs.Common.{◌≡◌, drop}
use Rattle.cb_flow.specs.Uses.{controllers_uses}
use Rattle.cb_flow.proofs.ends.add_controllers.Given as goal

abbrev pub invariant-loop-controller : goal.invariant-loop-controller
invariant-loop-controller l =
    controllers_uses l.names l.side l.number (drop l.controller-index l.controllers) l.all.items ≡ controllers_uses l.names l.side 0 l.controllers l.fn.all.items
