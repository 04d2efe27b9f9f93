use Rattle.std.proofs.Common.{◌≡◌, ◌++◌, drop, true}
use Rattle.cb_text_print.specs.Texts.{each_channel_text}
use Rattle.cb_text_print.proofs.controllers.put_each_channel.Given as goal

abbrev pub invariant-loop-channel : goal.invariant-loop-channel
invariant-loop-channel l = l.out.items ++ each_channel_text l.first (drop l.channel-index l.channels) ≡ l.initial.out.items ++ each_channel_text true l.channels
