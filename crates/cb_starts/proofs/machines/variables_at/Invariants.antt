use Rattle.std.proofs.Common.{◌≡◌, ◌++◌, drop}
use Rattle.cb_obligations.specs.Owed.{with_kinds}
use Rattle.cb_conditions.specs.Conditions.{listed, variables_of}
use Rattle.cb_starts.proofs.machines.variables_at.Given as goal

abbrev pub invariant-loop-place : goal.invariant-loop-place
invariant-loop-place l =
    l.names ++ with_kinds (variables_of (listed l.machines (drop l.place-index l.places))) ≡ with_kinds (variables_of (listed l.machines l.places))
