use Rattle.std.proofs.Common.{◌≡◌, ◌++◌, drop}
use Rattle.cb_obligations.specs.Owed.{with_kinds}
use Rattle.cb_starts.proofs.machines.add_kinds.Given as goal

abbrev pub invariant-loop-one : goal.invariant-loop-one
invariant-loop-one l = l.names ++ with_kinds (drop l.one-index l.declared) ≡ l.initial.names ++ with_kinds l.declared
