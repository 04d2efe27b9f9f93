use Rattle.std.proofs.Common.{◌≡◌, drop, None}
use Rattle.cb_lex.specs.RawSubstTree.{raw_substs}
use Rattle.cb_judge.specs.Sure.{sure_sides}
use Rattle.cb_judge.proofs.writes.+add_sure.Given as goal

abbrev pub invariant-loop-side : goal.invariant-loop-side
invariant-loop-side l =
    (sure_sides l.common (raw_substs (drop l.side-index l.side-items)) ≡ sure_sides None (raw_substs l.side-items))
    × (l.written ≡ l.fn.written)
