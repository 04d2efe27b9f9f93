use Rattle.std.proofs.Common.{◌≡◌, drop}
use Rattle.cb_arguments.specs.Scopes.{with_elements}
use Rattle.cb_arguments.proofs.scope.add_elements.Given as goal

abbrev pub invariant-loop-name : goal.invariant-loop-name
invariant-loop-name l = with_elements l.set l.index l.symbols (drop l.name-index l.elements) ≡ with_elements l.set 0 l.fn.symbols l.elements
