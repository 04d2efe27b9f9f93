use Rattle.std.proofs.Common.{◌≡◌, drop}
use Rattle.cb_seq.specs.Validity.{Claim}
use Rattle.cb_check.specs.Derives.{are_small}
use Rattle.cb_check.specs.Ways.{AreCounts}
use Rattle.cb_check.proofs.premises.are_small.Given as goal

abbrev pub invariant-loop-premise : goal.invariant-loop-premise
invariant-loop-premise l = (q : Claim) → AreCounts l.counts q → are_small q (drop l.premise-index l.premise-items) ≡ are_small q l.premises
