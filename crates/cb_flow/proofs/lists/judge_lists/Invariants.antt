use Rattle.std.proofs.Common.{◌≡◌, drop}
use Rattle.cb_forms.specs.Faults.{least, first}
use Rattle.cb_text_laws.specs.UseFaults.{machine_lists_fault, owned_from}
use Rattle.cb_flow.proofs.lists.judge_lists.Given as goal

abbrev pub invariant-loop-controller : goal.invariant-loop-controller
invariant-loop-controller l =
    (least l.fault (first (machine_lists_fault l.names l.owned (drop l.controller-index l.controllers))) ≡ first (machine_lists_fault l.names l.fn.owned l.controllers))
    × (owned_from l.names l.owned (drop l.controller-index l.controllers) ≡ owned_from l.names l.fn.owned l.controllers)
