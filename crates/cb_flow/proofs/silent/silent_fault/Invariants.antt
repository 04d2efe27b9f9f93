use Rattle.std.proofs.Common.{◌≡◌, drop}
use Rattle.cb_forms.specs.Faults.{least, first}
use Rattle.cb_text_laws.specs.SilentFaults.{costs_of, silent_fault}
use Rattle.cb_flow.proofs.silent.silent_fault.Given as goal

abbrev pub invariant-loop-definition : goal.invariant-loop-definition
invariant-loop-definition l =
    (least l.fault (first (silent_fault l.costs (drop l.definition-index l.definitions))) ≡ first (silent_fault l.costs l.definitions))
    × (l.costs ≡ costs_of l.definitions)
