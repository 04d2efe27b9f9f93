use Rattle.std.proofs.Common.{◌≡◌, drop}
use Rattle.cb_obligations.specs.Branches.{opened_name}
use Rattle.cb_wp.proofs.changes.opened_name.Given as goal

abbrev pub invariant-loop-opened : goal.invariant-loop-opened
invariant-loop-opened l = opened_name (drop l.opened-index l.scope) l.name ≡ opened_name l.scope l.name
