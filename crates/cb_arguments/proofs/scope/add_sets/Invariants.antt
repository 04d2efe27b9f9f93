use Rattle.std.proofs.Common.{◌≡◌, drop}
use Rattle.cb_arguments.specs.Scopes.{with_sets}
use Rattle.cb_arguments.proofs.scope.add_sets.Given as goal

abbrev pub invariant-loop-set : goal.invariant-loop-set
invariant-loop-set l = with_sets l.number l.symbols (drop l.set-index l.sets) ≡ with_sets 0 l.fn.symbols l.sets
