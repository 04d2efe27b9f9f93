use Rattle.std.proofs.Common.{◌≡◌, drop}
use Rattle.cb_forms.specs.Faults.{least, first}
use Rattle.cb_text_laws.specs.UseFaults.{unowned_fault}
use Rattle.cb_flow.proofs.lists.unowned.Given as goal

abbrev pub invariant-loop-machine : goal.invariant-loop-machine
invariant-loop-machine l =
    least l.fault (first (unowned_fault l.owned l.number (drop l.machine-index l.machines))) ≡ first (unowned_fault l.owned 0 l.machines)
