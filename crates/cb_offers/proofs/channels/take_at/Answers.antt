use Rattle.std.proofs.Common.{refl}
use Rattle.cb_offers.specs.Marks.{take_mark}
use Rattle.cb_offers.proofs.ChannelLemmas.{senders_at, receivers_at}
use Rattle.cb_offers.proofs.channels.take_at.Goals as goal

pub returns-in-Output : goal.returns-in-Output
returns-in-Output c = senders_at _ _ _ c.index_mut.result.now _ c.requires c.index_mut.ensures.value (take_mark c.args.mark) c.in-Output.is refl c.take.ensures.items c.take.ensures.room

pub returns-in-Input : goal.returns-in-Input
returns-in-Input c =
    receivers_at _ _ _ c.index_mut-in-Input.result.now _ c.requires c.index_mut-in-Input.ensures.value (take_mark c.args.mark) c.in-Input.is refl c.take-in-Input.ensures.items c.take-in-Input.ensures.room
