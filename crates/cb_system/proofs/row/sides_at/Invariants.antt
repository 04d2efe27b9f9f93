use Rattle.std.proofs.Common.{◌≡◌, take}
use Rattle.cb_system.specs.Rows.{sides_at}
use Rattle.cb_system.proofs.row.sides_at.Given as goal

abbrev pub invariant-loop-place : goal.invariant-loop-place
invariant-loop-place l = l.sides.items ≡ sides_at l.code (take l.place-index l.place-items)
