use Rattle.std.proofs.Common.{◌≡◌, ◌≤◌, drop}
use Rattle.cb_forms.specs.Faults.{least, first}
use Rattle.cb_text_laws.specs.UseFaults.{channel_ends_fault, missing_ends_fault}
use Rattle.cb_flow.proofs.ends.ends_fault.Given as goal

abbrev pub invariant-loop-channel : goal.invariant-loop-channel
invariant-loop-channel l =
    (least l.shared (first (channel_ends_fault l.names l.controllers l.number (drop l.channel-index l.channels))) ≡ first (channel_ends_fault l.names l.controllers 0 l.channels))
    × (least l.missing (first (missing_ends_fault l.names l.controllers l.number (drop l.channel-index l.channels))) ≡ first (missing_ends_fault l.names l.controllers 0 l.channels))
    × (l.number ≤ l.channel-index)
