use Rattle.std.proofs.Common.{◌≡◌, drop}
use Rattle.cb_forms.specs.Find.{with_common}
use Rattle.cb_forms.proofs.table.Table.add_common.Given as goal

abbrev pub invariant-loop-i : goal.invariant-loop-i
invariant-loop-i g l = with_common l.meaning l.self (drop l.i l.first) l.second ≡ with_common l.meaning l.fn.self l.first l.second
