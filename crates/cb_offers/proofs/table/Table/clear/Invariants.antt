use Rattle.std.proofs.Common.{◌≤◌, take, length}
use Rattle.cb_offers.specs.Kept.{Steps, row_at}
use Rattle.cb_offers.proofs.table.Table.clear.Given as goal

abbrev pub invariant-loop-left : goal.invariant-loop-left
invariant-loop-left l = Steps l.controller l.fn.self l.self (take l.left (row_at l.fn.self l.controller)) × (l.left ≤ length (row_at l.fn.self l.controller))

abbrev pub decreases-loop-left : goal.decreases-loop-left
decreases-loop-left l = l.left
