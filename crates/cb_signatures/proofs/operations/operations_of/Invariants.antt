use Rattle.std.proofs.Common.{◌≡◌, ◌++◌, drop}
use Rattle.cb_signatures.specs.Tables.{operations_of}
use Rattle.cb_signatures.proofs.operations.operations_of.Given as goal

abbrev pub invariant-loop-machine : goal.invariant-loop-machine
invariant-loop-machine l =
    (l.all ++ operations_of l.known l.fn.names l.owner (drop l.machine-index l.machines) ≡ operations_of l.known l.fn.names 0 l.machines)
    × (l.names ≡ l.fn.names)
