use Rattle.std.proofs.Common.{◌≡◌, ◌++◌, List, drop, map, flat_map}
use Rattle.cb_spec.specs.declared.system.Operation.{Operation}
use Rattle.cb_obligations.specs.Owed.{Owed, owed_of, operation_owes}
use Rattle.cb_obligations.specs.Steps.{Step}
use Rattle.cb_wp.specs.Limits.{operation_steps, count}
use Rattle.cb_wp.proofs.machine.add_operations.Given as goal

abbrev pub invariant-loop-operation : goal.invariant-loop-operation
invariant-loop-operation l =
    let steps : List Operation → List Step = flat_map (λ (o : Operation). operation_steps l.machine o) in
    let owes : List Operation → List Owed = flat_map (λ (o : Operation). operation_owes l.machine o) in
    record {
      counted : count l.used.obligations l.used.nodes (steps (drop l.operation-index l.operation-items))
          ≡ count l.initial.used.obligations l.initial.used.nodes (steps l.operation-items);
      list : map owed_of l.into.items ++ owes (drop l.operation-index l.operation-items)
          ≡ map owed_of l.initial.into.items ++ owes l.operation-items;
    }
