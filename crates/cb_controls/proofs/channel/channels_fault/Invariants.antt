use Rattle.std.proofs.Common.{◌≡◌, drop}
use Rattle.cb_forms.specs.Faults.{least, first}
use Rattle.cb_text_laws.specs.ControllerFaults.{channels_fault}
use Rattle.cb_controls.proofs.channel.channels_fault.Given as goal

abbrev pub invariant-loop-channel : goal.invariant-loop-channel
invariant-loop-channel l =
    (least l.fault (first (channels_fault l.view l.fn.names (drop l.channel-index l.channels))) ≡ first (channels_fault l.view l.fn.names l.channels))
    × (l.names ≡ l.fn.names)
