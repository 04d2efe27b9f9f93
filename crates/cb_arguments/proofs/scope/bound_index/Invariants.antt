use Rattle.std.proofs.Common.{◌≡◌, drop}
use Rattle.cb_arguments.specs.Scopes.{or_else, bound_at, name_of}
use Rattle.cb_arguments.proofs.scope.bound_index.Given as goal

abbrev pub invariant-loop-i : goal.invariant-loop-i
invariant-loop-i l = or_else (bound_at (drop l.i l.bound) (name_of l.name)) l.index ≡ bound_at l.bound (name_of l.name)
