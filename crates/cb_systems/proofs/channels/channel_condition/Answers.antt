use Rattle.std.proofs.Common.{ap, ◌∙◌, length, take}
use Rattle.cb_text_laws.specs.Signatures.{value_domains}
use Rattle.cb_controls.proofs.Fronts.{take_declared}
use Rattle.cb_systems.proofs.channels.channel_condition.Goals as goal

pub returns-clause-kept : goal.returns-clause-kept
returns-clause-kept c =
    c.leave.ensures
    ∙ ap (λ n. take n c.normal_maybe.new.names) c.len-outside.ensures
    ∙ ap (take (length c.args.names.now)) (c.in_ok-condition.ensures.kept ∙ c.in_ok-declare_values.ensures.names)
    ∙ take_declared (value_domains c.args.view.now c.args.names.now c.args.channel.now) c.args.channel.now.name c.args.channel.now.values c.args.names.now
