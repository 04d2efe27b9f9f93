use Rattle.std.proofs.Common.{◌≡◌, drop}
use Rattle.cb_arguments.specs.Scopes.{with_constants}
use Rattle.cb_arguments.proofs.scope.add_constants.Given as goal

abbrev pub invariant-loop-constant : goal.invariant-loop-constant
invariant-loop-constant l = with_constants l.symbols (drop l.constant-index l.constants) ≡ with_constants l.fn.symbols l.constants
