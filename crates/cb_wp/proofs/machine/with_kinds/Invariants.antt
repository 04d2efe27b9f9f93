use Rattle.std.proofs.Common.{◌≡◌, ◌++◌, drop}
use Rattle.cb_obligations.specs.Owed.{with_kinds}
use Rattle.cb_wp.proofs.machine.with_kinds.Given as goal

abbrev pub invariant-loop-one : goal.invariant-loop-one
invariant-loop-one l = l.names.items ++ with_kinds (drop l.one-index l.declared) ≡ with_kinds l.declared
