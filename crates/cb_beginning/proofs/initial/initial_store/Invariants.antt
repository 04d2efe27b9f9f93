use Rattle.std.proofs.Common.{◌≤◌, length, drop}
use Rattle.cb_spec.specs.Journals.{set_sizes}
use Rattle.cb_beginning.specs.Initial.{HaveBegun}
use Rattle.cb_beginning.proofs.initial.initial_store.Given as goal

-- the last machines have begun
abbrev pub invariant-loop-left : goal.invariant-loop-left
invariant-loop-left g l = (l.left ≤ length l.machines) × HaveBegun (set_sizes l.system) (drop l.left l.machines) l.values

abbrev pub decreases-loop-left : goal.decreases-loop-left
decreases-loop-left g l = l.left
