use Rattle.std.proofs.Common.{◌≤◌, length}
use Rattle.cb_offers.specs.Kept.{Steps, row_at, row_room}
use Rattle.cb_offers.proofs.TableLemmas.{HasRoomBelow}
use Rattle.cb_offers.proofs.table.Table.reserve.Given as goal

abbrev pub invariant-loop-side : goal.invariant-loop-side
invariant-loop-side l = record {
  steps : Steps l.controller l.fn.self l.self (row_at l.fn.self l.controller);
  below : HasRoomBelow l.self l.controller l.sides l.side-index;
  own : length l.sides ≤ row_room l.self l.controller;
}
