use Rattle.std.proofs.Common.{◌≡◌, ◌++◌, drop, map}
use Rattle.cb_text_laws.specs.UseFaults.{no_users}
use Rattle.cb_flow.proofs.ends.none_yet.Given as goal

abbrev pub invariant-loop-channel : goal.invariant-loop-channel
invariant-loop-channel l = l.all.items ++ map (λ c. no_users) (drop l._channel-index l.channels) ≡ map (λ c. no_users) l.channels
