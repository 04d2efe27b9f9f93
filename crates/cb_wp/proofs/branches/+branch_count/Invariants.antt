use Rattle.std.proofs.Common.{◌≡◌, ◌+◌, ◌≤◌, min, drop}
use Rattle.cb_spec.specs.SubstTree.{sides_of}
use Rattle.cb_obligations.specs.Counts.{branch_counts}
use Rattle.cb_wp.proofs.branches.+branch_count.Given as goal

abbrev pub invariant-loop-side : goal.invariant-loop-side
invariant-loop-side l = record {
  same : min (l.sum + branch_counts (sides_of (drop l.side-index l.side-items))) 257
      ≡ min (branch_counts (sides_of l.side-items)) 257;
  most : l.sum ≤ 257;
}
