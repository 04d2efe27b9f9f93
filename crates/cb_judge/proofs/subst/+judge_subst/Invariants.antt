use Rattle.std.proofs.Common.{◌≡◌, drop}
use Rattle.cb_lex.specs.RawSubstTree.{raw_substs}
use Rattle.cb_forms.specs.Faults.{least, first}
use Rattle.cb_judge.specs.Substs.{results_after_sides, sides_fault}
use Rattle.cb_judge.proofs.subst.+judge_subst.Given as goal

abbrev pub invariant-loop-side : goal.invariant-loop-side
invariant-loop-side l =
    (results_after_sides l.view l.fn.names l.results (raw_substs (drop l.side-index l.side-items)) ≡ results_after_sides l.view l.fn.names l.fn.results (raw_substs l.side-items))
    × (least l.fault (first (sides_fault l.view l.fn.names l.results (raw_substs (drop l.side-index l.side-items)))) ≡ first (sides_fault l.view l.fn.names l.fn.results (raw_substs l.side-items)))
    × (l.names ≡ l.fn.names)
