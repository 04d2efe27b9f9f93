use Rattle.std.proofs.Common.{take}
use Rattle.cb_offers.specs.Kept.{Steps, HasRoom}
use Rattle.cb_offers.proofs.table.Table.set.Given as goal

abbrev pub invariant-loop-side : goal.invariant-loop-side
invariant-loop-side l = record {
  steps : Steps l.controller l.fn.self l.self (take l.side-index l.sides);
  room : HasRoom l.self l.controller l.sides;
}
