use Rattle.std.proofs.Common.{◌≡◌, drop, map}
use Rattle.cb_obligations.specs.Transform.{and_branches}
use Rattle.cb_wp.specs.Parts.{branch_of}
use Rattle.cb_wp.proofs.transform.and_branches.Given as goal

abbrev pub invariant-loop-branch : goal.invariant-loop-branch
invariant-loop-branch l =
    and_branches l.whole (map branch_of (drop l.branch-index l.branches)) l.formula ≡ and_branches l.initial.whole (map branch_of l.branches) l.formula
