use Rattle.std.proofs.Common.{refl, arith}
use Rattle.cb_offers.specs.declared.table.Table.{Table}
use Rattle.cb_offers.proofs.ReadyLemmas.{new_table}
use Rattle.cb_offers.proofs.table.Table.new.Goals as goal

pub returns : goal.returns
returns c =
    let table : Table = record { channels = c.in_ok-channels.channels; rows = c.in_ok-rows.rows; met = 0; calls = 0 } in
    new_table c.args.channels c.args.controllers table (omega (arith, c.ranges.channels.fits)) (omega (arith, c.ranges.controllers.fits)) c.in_ok-channels.ensures.fresh c.in_ok-channels.ensures.as_many c.in_ok-rows.ensures refl refl
