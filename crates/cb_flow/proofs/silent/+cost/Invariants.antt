use Rattle.std.proofs.Common.{◌≡◌, ◌+◌, ◌*◌, drop}
use Rattle.cb_lex.specs.RawProcessTree.{Internal, raw_processes, process_nodes, processes_nodes}
use Rattle.cb_text_laws.specs.SilentFaults.{cost, most}
use Rattle.cb_flow.proofs.Walks.{chained_from}
use Rattle.cb_flow.proofs.silent.+cost.Given as goal

abbrev pub invariant-most-loop-operand : goal.invariant-most-loop-operand
invariant-most-loop-operand l = most l.costs l.choices (raw_processes (drop l.operand-index l.operands)) ≡ most l.costs 0 (raw_processes l.operands)

abbrev pub invariant-chained-loop-operand : goal.invariant-chained-loop-operand
invariant-chained-loop-operand l = chained_from l.costs l.choices (raw_processes (drop l.operand-index l.operands)) ≡ cost l.costs (Internal (raw_processes l.operands))

abbrev pub decreases-cost : goal.decreases-cost
decreases-cost l = 2 * process_nodes l.process.now

abbrev pub decreases-most : goal.decreases-most
decreases-most l = 2 * processes_nodes (raw_processes l.operands.now) + 1

abbrev pub decreases-chained : goal.decreases-chained
decreases-chained l = 2 * processes_nodes (raw_processes l.operands.now) + 1
