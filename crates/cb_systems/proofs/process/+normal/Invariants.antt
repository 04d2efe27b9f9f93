use Rattle.std.proofs.Common.{◌≡◌, ◌+◌, ◌*◌, drop}
use Rattle.cb_lex.specs.RawProcessTree.{raw_processes, process_nodes, processes_nodes}
use Rattle.cb_systems.specs.Joins.{joined_in}
use Rattle.cb_systems.proofs.process.+normal.Given as goal

abbrev pub invariant-normal_joins-loop-operand : goal.invariant-normal_joins-loop-operand
invariant-normal_joins-loop-operand l =
    let chain = joined_in l.sign l.around.known.now l.fn.globals l.around.machines.now l.around.channels.now l.around.view.now l.around.own.now l.around.definitions.now l.fn.names in
    (chain l.done (raw_processes (drop l.operand-index l.operands)) ≡ chain l.fn.done (raw_processes l.operands))
    × (l.globals ≡ l.fn.globals)
    × (l.names ≡ l.fn.names)

abbrev pub decreases-normal_process : goal.decreases-normal_process
decreases-normal_process l = 5 * process_nodes l.process.now

abbrev pub decreases-boxed_process : goal.decreases-boxed_process
decreases-boxed_process l = 5 * process_nodes l.process.now + 1

abbrev pub decreases-tested : goal.decreases-tested
decreases-tested l = 5 * process_nodes l.then.now + 2

abbrev pub decreases-normal_if : goal.decreases-normal_if
decreases-normal_if l = 5 * (process_nodes l.then.now + process_nodes l.otherwise.now) + 3

abbrev pub decreases-event_and_rest : goal.decreases-event_and_rest
decreases-event_and_rest l = 5 * process_nodes l.process.now + 2

abbrev pub decreases-normal_prefix : goal.decreases-normal_prefix
decreases-normal_prefix l = 5 * process_nodes l.process.now + 3

abbrev pub decreases-normal_chain : goal.decreases-normal_chain
decreases-normal_chain l = 5 * processes_nodes (raw_processes l.operands.now) + 4

abbrev pub decreases-normal_joins : goal.decreases-normal_joins
decreases-normal_joins l = 5 * processes_nodes (raw_processes l.operands.now) + 3

abbrev pub decreases-with_operand : goal.decreases-with_operand
decreases-with_operand l = 5 * process_nodes l.operand.now + 2
