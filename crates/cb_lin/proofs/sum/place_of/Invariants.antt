use Rattle.std.proofs.Common.{◌≡◌, ◌+◌, drop}
use Rattle.cb_lin.specs.Steps.{place}
use Rattle.cb_lin.proofs.sum.place_of.Given as goal

abbrev pub invariant-loop-i : goal.invariant-loop-i
invariant-loop-i l = place l.term l.parts ≡ l.i + place l.term (drop l.i l.parts)
