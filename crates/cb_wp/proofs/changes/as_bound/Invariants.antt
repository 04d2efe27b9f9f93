use Rattle.std.proofs.Common.{◌≡◌, drop}
use Rattle.cb_obligations.specs.Transform.{as_bound}
use Rattle.cb_wp.proofs.changes.as_bound.Given as goal

abbrev pub invariant-loop-x : goal.invariant-loop-x
invariant-loop-x l = as_bound (drop l.x-index l.bound) l.place l.name ≡ as_bound l.bound l.depth l.name
