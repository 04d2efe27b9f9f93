use Rattle.std.proofs.Common.{◌≡◌, map, replicate, [], Vec}
use Rattle.std.specs.declared.alloc.Global.{Global}
use Rattle.cb_offers.specs.declared.offers.Side.{Side}
use Rattle.cb_offers.proofs.table.empty_rows.Given as goal

abbrev pub invariant-loop-number : goal.invariant-loop-number
invariant-loop-number l = map (λ (row : Vec Side Global). row.items) l.rows.items ≡ replicate l._number []
