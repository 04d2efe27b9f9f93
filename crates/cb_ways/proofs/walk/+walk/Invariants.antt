use Rattle.std.proofs.Common.{◌≡◌, ◌+◌, ◌*◌, ◌++◌, List, drop, map, take, flat_map}
use Rattle.cb_seq.specs.Validity.{Claim, claim_of}
use Rattle.cb_spec.specs.ProcessSize.{process_nodes}
use Rattle.cb_obligations.specs.Branches as spec
use Rattle.cb_obligations.specs.Steps.{Step}
use Rattle.cb_wp.specs.Limits.{count}
use Rattle.cb_wp.specs.Parts.{branch_of}
use Rattle.cb_conditions.specs.Ways.{Way, ways}
use Rattle.cb_symbolic.specs.Stores.{meaning_of}
use Rattle.cb_symbolic.specs.Walks.{way_of}
use Rattle.cb_ways.specs.Calls.{branch_way, branch_steps}
use Rattle.cb_ways.proofs.walk.+walk.Given as goal

abbrev pub invariant-add_each-loop-branch : goal.invariant-add_each-loop-branch
invariant-add_each-loop-branch l =
    let w : Way = way_of l.reached l.initial.walk in
    let s = meaning_of (take l.outer l.initial.walk.store) in
    let steps : List spec.Branch → List Step = flat_map (branch_steps l.system l.controller l.machine l.operation l.results l.process s w) in
    let owed : List spec.Branch → List Claim = flat_map (λ (b : spec.Branch). ways l.system l.controller l.process (branch_way l.machine l.operation l.results s w b)) in
    record {
      walk : l.walk ≡ l.initial.walk;
      counted : count l.made.used.obligations l.made.used.nodes (steps (map branch_of (drop l.branch-index l.branches)))
          ≡ count l.initial.made.used.obligations l.initial.made.used.nodes (steps (map branch_of l.branches));
      list : map claim_of l.made.sequents.items ++ owed (map branch_of (drop l.branch-index l.branches))
          ≡ map claim_of l.initial.made.sequents.items ++ owed (map branch_of l.branches);
    }

abbrev pub decreases-add_ways : goal.decreases-add_ways
decreases-add_ways l = 6 * process_nodes l.process.now

abbrev pub decreases-add_both : goal.decreases-add_both
decreases-add_both l = 6 * (process_nodes l.left.now + process_nodes l.right.now) + 1

abbrev pub decreases-add_if : goal.decreases-add_if
decreases-add_if l = 6 * (process_nodes l.first.now + process_nodes l.second.now) + 2

abbrev pub decreases-add_side : goal.decreases-add_side
decreases-add_side l = 6 * process_nodes l.process.now + 1

abbrev pub decreases-add_other_side : goal.decreases-add_other_side
decreases-add_other_side l = 6 * process_nodes l.process.now + 1

abbrev pub decreases-add_output : goal.decreases-add_output
decreases-add_output l = 6 * process_nodes l.process.now + 1

abbrev pub decreases-add_input : goal.decreases-add_input
decreases-add_input l = 6 * process_nodes l.process.now + 2

abbrev pub decreases-add_received : goal.decreases-add_received
decreases-add_received l = 6 * process_nodes l.process.now + 1

abbrev pub decreases-add_operation : goal.decreases-add_operation
decreases-add_operation l = 6 * process_nodes l.process.now + 5

abbrev pub decreases-add_called : goal.decreases-add_called
decreases-add_called l = 6 * process_nodes l.process.now + 4

abbrev pub decreases-add_branches : goal.decreases-add_branches
decreases-add_branches l = 6 * process_nodes l.process.now + 3

abbrev pub decreases-add_each : goal.decreases-add_each
decreases-add_each l = 6 * process_nodes l.process.now + 2

abbrev pub decreases-add_branch : goal.decreases-add_branch
decreases-add_branch l = 6 * process_nodes l.process.now + 1
