use Rattle.std.proofs.Common.{◌≡◌, ◌++◌, drop}
use Rattle.cb_wp.proofs.branches.copy_writes.Given as goal

abbrev pub invariant-loop-write : goal.invariant-loop-write
invariant-loop-write l = l.copies ++ drop l.write-index l.writes ≡ l.writes
