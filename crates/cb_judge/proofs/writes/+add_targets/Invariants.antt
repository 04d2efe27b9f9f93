use Rattle.std.proofs.Common.{◌≡◌, drop}
use Rattle.cb_lex.specs.RawSubstTree.{raw_substs}
use Rattle.cb_judge.specs.Writes.{after_sides}
use Rattle.cb_judge.proofs.writes.+add_targets.Given as goal

abbrev pub invariant-loop-side : goal.invariant-loop-side
invariant-loop-side l = after_sides l.written (raw_substs (drop l.side-index l.side-items)) ≡ after_sides l.fn.written (raw_substs l.side-items)
