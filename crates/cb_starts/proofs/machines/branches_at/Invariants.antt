use Rattle.std.proofs.Common.{◌≡◌, ◌*◌, ◌≤◌, min, drop}
use Rattle.cb_obligations.specs.Counts.{branch_count}
use Rattle.cb_conditions.specs.Conditions.{listed, beginnings}
use Rattle.cb_starts.proofs.machines.branches_at.Given as goal

abbrev pub invariant-loop-place : goal.invariant-loop-place
invariant-loop-place l = record {
  same : min (l.count * branch_count (beginnings (listed l.machines (drop l.place-index l.places)))) 257
      ≡ min (branch_count (beginnings (listed l.machines l.places))) 257;
  most : l.count ≤ 257;
}
