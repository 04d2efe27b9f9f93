use Rattle.std.proofs.Common.{◌≡◌, ◌<◌, ◌∙◌, List, ℕ, ap, sym, length, get_or, refl, arith, rules}
use Rattle.cb_text_laws.specs.NormalTexts.{channel_in, user_or}
use Rattle.cb_text_laws.specs.UseFaults.{Users, sending, receiving, users_of}
use Rattle.cb_flow.proofs.UserSteps.{all_length, all_at}
use Rattle.cb_systems.proofs.Orders.{one_more}
use Rattle.cb_systems.proofs.channels.normal_channels.Goals as goal

pub bounds-senders-number : goal.bounds-senders-number
bounds-senders-number c =
    let same = ap length c.requires.senders ∙ all_length c.args.names.now sending c.args.controllers.now c.args.channels.now in
    omega (arith, same, c.loop-channel.invariant.2, c.loop-channel-test.true)

pub bounds-receivers-number : goal.bounds-receivers-number
bounds-receivers-number c =
    let same = ap length c.requires.receivers ∙ all_length c.args.names.now receiving c.args.controllers.now c.args.channels.now in
    omega (arith, same, c.loop-channel.invariant.2, c.loop-channel-test.true)

pub loop-channel-preserved : goal.loop-channel-preserved
loop-channel-preserved c =
    let v = c.args.view.now in
    let names = c.args.names.now in
    let cs = c.args.controllers.now in
    let order = c.args.order.now in
    let channels = c.args.channels.now in
    let k = c.loop-channel.number in
    let raw = c.channel-item.result in
    let inside : k < length channels = omega (arith, c.loop-channel.invariant.2, c.loop-channel-test.true) in
    let sends : c.index-senders-number.result ≡ users_of names sending k cs =
    c.index-senders-number.is
    ∙ ap (λ (us : List Users). get_or us k c.index-senders-number.result) c.requires.senders
    ∙ all_at names sending cs channels k c.index-senders-number.result inside in
    let gets : c.index-receivers-number.result ≡ users_of names receiving k cs =
    c.index-receivers-number.is
    ∙ ap (λ (us : List Users). get_or us k c.index-receivers-number.result) c.requires.receivers
    ∙ all_at names receiving cs channels k c.index-receivers-number.result inside in
    let sender : c.in_ok-sender.sender ≡ user_or (length cs) order (users_of names sending k cs).user =
    c.in_ok-sender.ensures ∙ ap (λ (u : Users). user_or (length cs) order u.user) sends in
    let receiver : c.in_ok-receiver.receiver ≡ user_or (length cs) order (users_of names receiving k cs).user =
    c.in_ok-receiver.ensures ∙ ap (λ (u : Users). user_or (length cs) order u.user) gets in
    let form : c.in_ok-normal.normal ≡ channel_in v names cs order k raw =
    c.in_ok-normal.ensures.form ∙ rw (c.loop-channel.invariant.1, sender, receiver) refl in (
      one_more v names cs order channels c.loop-channel.channel-index k c.next_number-number.result raw c.loop-channel.all c.push.new.self c.in_ok-normal.normal
          c.loop-channel-test.true c.channel-item.is c.next_number-number.ensures search rules form c.loop-channel.invariant.0,
      c.in_ok-normal.ensures.kept ∙ c.loop-channel.invariant.1,
      search rules,
    )
