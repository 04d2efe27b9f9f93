use Rattle.std.proofs.Common.{◌≡◌, length}
use Rattle.cb_offers.specs.Kept.{AreFresh}
use Rattle.cb_offers.proofs.table.fresh_channels.Given as goal

abbrev pub invariant-loop-number : goal.invariant-loop-number
invariant-loop-number l = AreFresh l.channels.items × (length l.channels.items ≡ l._number)
