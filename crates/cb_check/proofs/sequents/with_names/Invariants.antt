use Rattle.std.proofs.Common.{◌≡◌, ◌++◌, drop}
use Rattle.cb_check.proofs.sequents.with_names.Given as goal

abbrev pub invariant-loop-named : goal.invariant-loop-named
invariant-loop-named l = l.all.items ++ drop l.named-index l.names ≡ l.names
