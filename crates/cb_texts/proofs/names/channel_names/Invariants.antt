use Rattle.std.proofs.Common.{◌≡◌, drop}
use Rattle.cb_forms.specs.Faults.{least, first}
use Rattle.cb_text_laws.specs.TextNames.{with_channels, channel_names_fault}
use Rattle.cb_texts.proofs.names.channel_names.Given as goal

abbrev pub invariant-loop-channel : goal.invariant-loop-channel
invariant-loop-channel l =
    (with_channels l.number l.names (drop l.channel-index l.channels) ≡ with_channels 0 l.fn.names l.channels)
    × (least l.fault (first (channel_names_fault l.number l.names (drop l.channel-index l.channels))) ≡ first (channel_names_fault 0 l.fn.names l.channels))
