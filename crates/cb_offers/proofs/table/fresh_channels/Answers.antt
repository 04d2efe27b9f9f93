use Rattle.std.proofs.Common.{◌≡◌, ◌++◌, ◌∷◌, [], List, length, ap, sym, subst, arith, length-append}
use Rattle.cb_offers.specs.declared.channels.Channel.{Channel}
use Rattle.cb_offers.specs.Kept.{AreFresh}
use Rattle.cb_offers.proofs.ReadyLemmas.{fresh_push}
use Rattle.cb_offers.proofs.table.fresh_channels.Goals as goal

pub loop-number-preserved : goal.loop-number-preserved
loop-number-preserved c =
    let channel : Channel = record { senders = c.new.result; receivers = c.new-in-loop-number.result } in
    let whole : c.push.new.self.items ≡ c.loop-number.channels.items ++ channel ∷ [] = c.in_ok-push.ensures.items in (
      subst AreFresh (sym whole) (fresh_push c.loop-number.channels.items channel c.loop-number.invariant.0 c.new.ensures.items c.new-in-loop-number.ensures.items),
      omega (arith, ap (λ (l : List Channel). length l) whole, length-append c.loop-number.channels.items (channel ∷ []), c.loop-number.invariant.1),
    )
