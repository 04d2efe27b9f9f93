use Rattle.std.proofs.Common.{refl}
use Rattle.std.proofs.lemmas.Result.{on_ok_weaker}
use Rattle.cb_offers.proofs.ChannelLemmas.{senders_at, receivers_at, senders_room_at, receivers_room_at}
use Rattle.cb_offers.proofs.channels.reserve_at.Goals as goal

pub returns-in-Output-clause-same : goal.returns-in-Output-clause-same
returns-in-Output-clause-same c = senders_at _ _ _ c.index_mut.result.now _ c.requires c.index_mut.ensures.value (λ l. l) c.in-Output.is refl c.reserve.ensures.items c.reserve.ensures.capacity

pub returns-in-Output-clause-ok : goal.returns-in-Output-clause-ok
returns-in-Output-clause-ok c =
    on_ok_weaker c.reserve.result (λ room. senders_room_at _ _ _ c.index_mut.result.now _ c.requires c.index_mut.ensures.value c.in-Output.is c.reserve.ensures.items room) c.reserve.ensures.ok

pub returns-in-Input-clause-same : goal.returns-in-Input-clause-same
returns-in-Input-clause-same c =
    receivers_at _ _ _ c.index_mut-in-Input.result.now _ c.requires c.index_mut-in-Input.ensures.value (λ l. l) c.in-Input.is refl c.reserve-in-Input.ensures.items c.reserve-in-Input.ensures.capacity

pub returns-in-Input-clause-ok : goal.returns-in-Input-clause-ok
returns-in-Input-clause-ok c =
    on_ok_weaker c.reserve-in-Input.result (λ room. receivers_room_at _ _ _ c.index_mut-in-Input.result.now _ c.requires c.index_mut-in-Input.ensures.value c.in-Input.is c.reserve-in-Input.ensures.items room) c.reserve-in-Input.ensures.ok
