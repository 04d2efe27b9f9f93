use Rattle.std.proofs.Common.{◌≡◌, drop}
use Rattle.cb_forms.specs.Faults.{least, first}
use Rattle.cb_judge.specs.Writes.{missing}
use Rattle.cb_judge.proofs.writes.not_written.Given as goal

abbrev pub invariant-loop-name : goal.invariant-loop-name
invariant-loop-name l = least l.fault (first (missing l.subst l.at (drop l.name-index l.list))) ≡ first (missing l.subst l.at l.list)
