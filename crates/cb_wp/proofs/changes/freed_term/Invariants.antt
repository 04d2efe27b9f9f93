use Rattle.std.proofs.Common.{◌≡◌, drop}
use Rattle.cb_obligations.specs.Pieces.{freed}
use Rattle.cb_wp.proofs.changes.freed_term.Given as goal

abbrev pub invariant-loop-y : goal.invariant-loop-y
invariant-loop-y l = freed (drop l.y-index l.opened) l.place l.index ≡ freed l.opened l.depth l.index
