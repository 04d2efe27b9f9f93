use Rattle.std.proofs.Common.{◌≡◌, drop}
use Rattle.cb_types.specs.Declares.{sees_from}
use Rattle.cb_types.proofs.tables.add_seen.Given as goal

abbrev pub invariant-loop-name : goal.invariant-loop-name
invariant-loop-name l = sees_from l.known l.owners (drop l.name-index l.sees) ≡ sees_from l.known l.fn.owners l.sees
