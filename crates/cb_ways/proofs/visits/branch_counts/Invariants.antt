use Rattle.std.proofs.Common.{◌≡◌, ◌++◌, map, drop}
use Rattle.cb_ways.specs.Calls.{machine_counts}
use Rattle.cb_ways.proofs.visits.branch_counts.Given as goal

abbrev pub invariant-loop-machine : goal.invariant-loop-machine
invariant-loop-machine l = l.counts ++ map machine_counts (drop l.machine-index l.machine-items) ≡ map machine_counts l.machine-items
