use Rattle.std.proofs.Common.{◌≡◌, ◌++◌, ◌∷◌, drop}
use Rattle.cb_wp.proofs.branches.with_first.Given as goal

abbrev pub invariant-loop-other : goal.invariant-loop-other
invariant-loop-other l = l.all ++ drop l.other-index l.names ≡ l.fn.name ∷ l.names
