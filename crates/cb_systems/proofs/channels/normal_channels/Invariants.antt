use Rattle.std.proofs.Common.{◌≡◌, ◌≤◌, ◌++◌, drop}
use Rattle.cb_text_laws.specs.NormalTexts.{channels_in}
use Rattle.cb_systems.proofs.channels.normal_channels.Given as goal

abbrev pub invariant-loop-channel : goal.invariant-loop-channel
invariant-loop-channel l =
    (l.all ++ channels_in l.view l.fn.names l.controllers l.order l.number (drop l.channel-index l.channels) ≡ channels_in l.view l.fn.names l.controllers l.order 0 l.channels)
    × (l.names ≡ l.fn.names)
    × (l.number ≤ l.channel-index)
