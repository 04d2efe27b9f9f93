use Rattle.std.proofs.Common.{◌≡◌, ◌++◌, drop}
use Rattle.cb_wp.proofs.sequents.copy_names.Given as goal

abbrev pub invariant-loop-named : goal.invariant-loop-named
invariant-loop-named l = l.copies.items ++ drop l.named-index l.names ≡ l.names
