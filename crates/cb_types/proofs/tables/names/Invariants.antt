use Rattle.std.proofs.Common.{◌≡◌, drop}
use Rattle.cb_forms.specs.Faults.{least, first}
use Rattle.cb_types.specs.Declares.{names_of, names_fault}
use Rattle.cb_types.proofs.tables.names.Given as goal

abbrev pub invariant-loop-machine : goal.invariant-loop-machine
invariant-loop-machine l =
    (names_of l.known l.owner l.set l.names (drop l.machine-index l.machines) ≡ names_of l.known 0 0 l.fn.names l.machines)
    × (least l.fault (first (names_fault l.known l.owner l.set l.names (drop l.machine-index l.machines))) ≡ first (names_fault l.known 0 0 l.fn.names l.machines))
