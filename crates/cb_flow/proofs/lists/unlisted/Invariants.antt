use Rattle.std.proofs.Common.{◌≡◌, drop}
use Rattle.cb_forms.specs.Faults.{least, first}
use Rattle.cb_text_laws.specs.UseFaults.{unlisted_fault}
use Rattle.cb_flow.proofs.lists.unlisted.Given as goal

abbrev pub invariant-loop-controller : goal.invariant-loop-controller
invariant-loop-controller l =
    least l.fault (first (unlisted_fault l.order l.number (drop l.controller-index l.controllers))) ≡ first (unlisted_fault l.order 0 l.controllers)
