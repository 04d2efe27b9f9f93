use Rattle.std.proofs.Common.{◌≡◌, drop}
use Rattle.cb_obligations.specs.Transform.{assigned}
use Rattle.cb_wp.proofs.changes.written_term.Given as goal

abbrev pub invariant-loop-write : goal.invariant-loop-write
invariant-loop-write l = assigned l.bound (drop l.write-index l.writes) l.depth l.name ≡ assigned l.bound l.writes l.depth l.name
