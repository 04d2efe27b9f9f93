use Rattle.std.proofs.Common.{◌≡◌, ◌<◌, ◌∙◌, List, ap, length, get_or, arith}
use Rattle.std.proofs.lemmas.Grind.{common_steps}
use Rattle.cb_text_laws.specs.UseFaults.{Users, sending, receiving, users_of}
use Rattle.cb_forms.proofs.Order.{least_assoc}
use Rattle.cb_flow.proofs.UserSteps.{all_length, all_at}
use Rattle.cb_flow.proofs.ends.ends_fault.Goals as goal

pub index-sending-requires : goal.index-sending-requires
index-sending-requires c =
    let same = ap length c.in_ok-senders.ensures ∙ all_length c.args.names.now sending c.args.controllers.now c.args.channels.now in
    omega (arith, same, c.loop-channel.invariant.2, c.loop-channel-test.true)

pub index-receiving-requires : goal.index-receiving-requires
index-receiving-requires c =
    let same = ap length c.in_ok-receivers.ensures ∙ all_length c.args.names.now receiving c.args.controllers.now c.args.channels.now in
    omega (arith, same, c.loop-channel.invariant.2, c.loop-channel-test.true)

pub loop-channel-preserved : goal.loop-channel-preserved
loop-channel-preserved c =
    let within : c.loop-channel.number < length c.args.channels.now = omega (arith, c.loop-channel.invariant.2, c.loop-channel-test.true) in
    let senders : c.index-sending.result.now ≡ users_of c.args.names.now sending c.loop-channel.number c.args.controllers.now =
    c.index-sending.ensures
    ∙ ap (λ (us : List Users). get_or us c.loop-channel.number c.index-sending.result.now) c.in_ok-senders.ensures
    ∙ all_at c.args.names.now sending c.args.controllers.now c.args.channels.now c.loop-channel.number c.index-sending.result.now within in
    let receivers : c.index-receiving.result.now ≡ users_of c.args.names.now receiving c.loop-channel.number c.args.controllers.now =
    c.index-receiving.ensures
    ∙ ap (λ (us : List Users). get_or us c.loop-channel.number c.index-receiving.result.now) c.in_ok-receivers.ensures
    ∙ all_at c.args.names.now receiving c.args.controllers.now c.args.channels.now c.loop-channel.number c.index-receiving.result.now within in
    grind (arith, common_steps, least_assoc, senders, receivers)
