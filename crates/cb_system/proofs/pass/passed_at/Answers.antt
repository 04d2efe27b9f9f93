use Rattle.std.proofs.Common.{refl}
use Rattle.cb_system.proofs.PassLemmas.{channel_is, sent_has, got_has, sent_event, got_event, output_is, input_is, sent_branch, got_branch, sent_typed, names_many, passed_is}
use Rattle.cb_system.proofs.pass.passed_at.Goals as goal

pub branch_at-out-requires-clause-has : goal.branch_at-out-requires-clause-has
branch_at-out-requires-clause-has c =
    sent_has c.args.system.now c.args.code.now c.args.places.now c.args.channel c.args.sent c.args.got c.requires c.index-as_slice-channel.result (channel_is c.args.system.now c.args.code.now c.args.places.now c.args.channel c.args.sent c.args.got c.requires c.as_slice.result.now c.index-as_slice-channel.result c.as_slice.ensures c.index-as_slice-channel.is)

pub branch_at-into-requires-clause-has : goal.branch_at-into-requires-clause-has
branch_at-into-requires-clause-has c =
    got_has c.args.system.now c.args.code.now c.args.places.now c.args.channel c.args.sent c.args.got c.requires c.index-as_slice-channel.result (channel_is c.args.system.now c.args.code.now c.args.places.now c.args.channel c.args.sent c.args.got c.requires c.as_slice.result.now c.index-as_slice-channel.result c.as_slice.ensures c.index-as_slice-channel.is)

pub values_of-requires : goal.values_of-requires
values_of-requires c =
    let same = channel_is c.args.system.now c.args.code.now c.args.places.now c.args.channel c.args.sent c.args.got c.requires c.as_slice.result.now c.index-as_slice-channel.result c.as_slice.ensures c.index-as_slice-channel.is in
    let out = sent_branch c.args.system.now c.args.code.now c.args.places.now c.args.channel c.args.sent c.args.got c.requires c.index-as_slice-channel.result same c.branch_at-out.result.event.now c.in-Output.channel c.in-Output.terms c.in-Output.guarantee c.branch_at-out.result.next c.branch_at-out.result.env.now c.in-Output.is c.branch_at-out.ensures in
    sent_typed c.args.system.now c.args.code.now c.args.places.now c.args.channel c.args.sent c.args.got c.requires c.index-as_slice-channel.result same c.in-Output.terms c.in-Output.guarantee c.branch_at-out.result.next c.branch_at-out.result.env.now out

pub bound_over-requires : goal.bound_over-requires
bound_over-requires c =
    let same = channel_is c.args.system.now c.args.code.now c.args.places.now c.args.channel c.args.sent c.args.got c.requires c.as_slice.result.now c.index-as_slice-channel.result c.as_slice.ensures c.index-as_slice-channel.is in
    let out = sent_branch c.args.system.now c.args.code.now c.args.places.now c.args.channel c.args.sent c.args.got c.requires c.index-as_slice-channel.result same c.branch_at-out.result.event.now c.in-Output.channel c.in-Output.terms c.in-Output.guarantee c.branch_at-out.result.next c.branch_at-out.result.env.now c.in-Output.is c.branch_at-out.ensures in
    let into = got_branch c.args.system.now c.args.code.now c.args.places.now c.args.channel c.args.sent c.args.got c.requires c.index-as_slice-channel.result same c.branch_at-into.result.event.now c.in-Input.channel c.in-Input.names c.in-Input.assume c.branch_at-into.result.next c.branch_at-into.result.env.now c.in-Input.is c.branch_at-into.ensures in
    names_many c.args.system.now c.args.code.now c.args.places.now c.args.channel c.args.sent c.args.got c.requires c.index-as_slice-channel.result same c.in-Output.terms c.in-Output.guarantee c.branch_at-out.result.next c.branch_at-out.result.env.now out c.in-Input.names c.in-Input.assume c.branch_at-into.result.next c.branch_at-into.result.env.now into c.in_ok-values-in-Input.values c.in_ok-values-in-Input.ensures

pub unreachable-requires : goal.unreachable-requires
unreachable-requires c =
    let same = channel_is c.args.system.now c.args.code.now c.args.places.now c.args.channel c.args.sent c.args.got c.requires c.as_slice.result.now c.index-as_slice-channel.result c.as_slice.ensures c.index-as_slice-channel.is in
    input_is c.args.channel c.branch_at-into.result.event.now (got_event c.args.system.now c.args.code.now c.args.places.now c.args.channel c.args.sent c.args.got c.requires c.index-as_slice-channel.result same c.branch_at-into.result.event.now c.branch_at-into.result.next c.branch_at-into.result.env.now c.branch_at-into.ensures) c.in_default-event.not-Input

pub unreachable-requires-in_default : goal.unreachable-requires-in_default
unreachable-requires-in_default c =
    let same = channel_is c.args.system.now c.args.code.now c.args.places.now c.args.channel c.args.sent c.args.got c.requires c.as_slice.result.now c.index-as_slice-channel.result c.as_slice.ensures c.index-as_slice-channel.is in
    output_is c.args.channel c.branch_at-out.result.event.now (sent_event c.args.system.now c.args.code.now c.args.places.now c.args.channel c.args.sent c.args.got c.requires c.index-as_slice-channel.result same c.branch_at-out.result.event.now c.branch_at-out.result.next c.branch_at-out.result.env.now c.branch_at-out.ensures) c.in_default.not-Output

pub returns : goal.returns
returns c =
    let same = channel_is c.args.system.now c.args.code.now c.args.places.now c.args.channel c.args.sent c.args.got c.requires c.as_slice.result.now c.index-as_slice-channel.result c.as_slice.ensures c.index-as_slice-channel.is in
    let out = sent_branch c.args.system.now c.args.code.now c.args.places.now c.args.channel c.args.sent c.args.got c.requires c.index-as_slice-channel.result same c.branch_at-out.result.event.now c.in-Output.channel c.in-Output.terms c.in-Output.guarantee c.branch_at-out.result.next c.branch_at-out.result.env.now c.in-Output.is c.branch_at-out.ensures in
    let into = got_branch c.args.system.now c.args.code.now c.args.places.now c.args.channel c.args.sent c.args.got c.requires c.index-as_slice-channel.result same c.branch_at-into.result.event.now c.in-Input.channel c.in-Input.names c.in-Input.assume c.branch_at-into.result.next c.branch_at-into.result.env.now c.in-Input.is c.branch_at-into.ensures in
    passed_is c.args.system.now c.args.code.now c.args.places.now c.args.channel c.args.sent c.args.got c.requires c.index-as_slice-channel.result same c.in-Output.terms c.in-Output.guarantee c.branch_at-out.result.next c.branch_at-out.result.env.now out c.in-Input.names c.in-Input.assume c.branch_at-into.result.next c.branch_at-into.result.env.now into c.in_ok-values-in-Input.values c.in_ok-values-in-Input.ensures
    (record {
      values = c.in_ok-values-in-Input.values;
      sender = c.index-as_slice-channel.result.sender;
      out_next = c.branch_at-out.result.next;
      receiver = c.index-as_slice-channel.result.receiver;
      in_next = c.branch_at-into.result.next;
      env = c.in_ok-env-in-Input.env;
    }) refl refl refl refl refl c.in_ok-env-in-Input.ensures
