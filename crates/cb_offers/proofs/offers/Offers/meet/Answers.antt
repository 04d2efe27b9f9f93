use Rattle.std.proofs.Common.{List, slice_get, ap, sym, ◌∙◌}
use Rattle.cb_offers.specs.declared.marks.Mark.{Mark}
use Rattle.cb_offers.proofs.ViewLemmas.{both_meet, no_sender, no_receiver}
use Rattle.cb_offers.proofs.offers.Offers.meet.Goals as goal

pub returns-in_err-sender : goal.returns-in_err-sender
returns-in_err-sender c =
    c.from_residual.ensures
    ∙ no_sender c.self.inside.table c.args.self.now c.self.view_is c.self.invariant c.args.channel c.index-channel.result.now c.requires c.index-channel.ensures
    (sym (c.in_err-sender.ensures.value ∙ ap (λ (l : List Mark). slice_get l 0) c.deref.ensures.value))

pub returns-in_err-receiver : goal.returns-in_err-receiver
returns-in_err-receiver c =
    c.from_residual-in_err-receiver.ensures
    ∙ no_receiver c.self.inside.table c.args.self.now c.self.view_is c.self.invariant c.args.channel c.index-channel.result.now c.requires c.index-channel.ensures
    (sym (c.in_err-receiver.ensures.value ∙ ap (λ (l : List Mark). slice_get l 0) c.deref-2.ensures.value))

pub returns : goal.returns
returns c =
    both_meet c.self.inside.table c.args.self.now c.self.view_is c.self.invariant c.args.channel c.index-channel.result.now c.requires c.index-channel.ensures c.in_ok-sender.sender.now c.in_ok-receiver.receiver.now
    (sym (c.in_ok-sender.ensures.value ∙ ap (λ (l : List Mark). slice_get l 0) c.deref.ensures.value))
    (sym (c.in_ok-receiver.ensures.value ∙ ap (λ (l : List Mark). slice_get l 0) c.deref-2.ensures.value))
