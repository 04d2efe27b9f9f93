use Rattle.std.proofs.Common.{◌≡◌, ◌++◌, drop, map}
use Rattle.cb_text_laws.specs.Signatures.{value_forms}
use Rattle.cb_signatures.proofs.channels.channel_forms.Given as goal

abbrev pub invariant-loop-channel : goal.invariant-loop-channel
invariant-loop-channel l = l.forms ++ map (value_forms l.view l.names) (drop l.channel-index l.channels) ≡ map (value_forms l.view l.names) l.channels
