use Rattle.std.proofs.Common.{◌≡◌, drop, length}
use Rattle.cb_lex.specs.RawSubstTree.{raw_substs}
use Rattle.cb_forms.specs.Faults.{least, first}
use Rattle.cb_judge.specs.Writes.{shared_sides}
use Rattle.cb_judge.proofs.writes.+add_shared.Given as goal

abbrev pub invariant-loop-side : goal.invariant-loop-side
invariant-loop-side l =
    (l.written ≡ l.fn.written)
    × (least l.fault (first (shared_sides l.names l.fn.written (raw_substs (drop l.side-index l.side-items)))) ≡ first (shared_sides l.names l.fn.written (raw_substs l.side-items)))
    × (l.before ≡ length l.fn.written)
