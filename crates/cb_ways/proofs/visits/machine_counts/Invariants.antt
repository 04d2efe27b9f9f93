use Rattle.std.proofs.Common.{◌≡◌, ◌++◌, min, map, drop}
use Rattle.cb_spec.specs.declared.system.Operation.{Operation}
use Rattle.cb_obligations.specs.Counts.{branch_count}
use Rattle.cb_ways.proofs.visits.machine_counts.Given as goal

abbrev pub invariant-loop-operation : goal.invariant-loop-operation
invariant-loop-operation l =
    let counts = map (λ (o : Operation). min (branch_count o.body) 257) in
    l.counts ++ counts (drop l.operation-index l.operation-items) ≡ counts l.operation-items
