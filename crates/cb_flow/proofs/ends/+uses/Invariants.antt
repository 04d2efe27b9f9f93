use Rattle.std.proofs.Common.{◌≡◌, ◌+◌, ◌*◌, drop}
use Rattle.cb_lex.specs.RawProcessTree.{raw_processes, process_nodes, processes_nodes}
use Rattle.cb_flow.specs.Uses.{processes_uses}
use Rattle.cb_flow.proofs.ends.+uses.Given as goal

abbrev pub invariant-add_each-loop-operand : goal.invariant-add_each-loop-operand
invariant-add_each-loop-operand l =
    processes_uses l.names l.side l.controller (raw_processes (drop l.operand-index l.operands)) l.all.items
    ≡ processes_uses l.names l.side l.controller (raw_processes l.operands) l.fn.all.items

abbrev pub decreases-add_uses : goal.decreases-add_uses
decreases-add_uses l = 2 * process_nodes l.process.now

abbrev pub decreases-add_each : goal.decreases-add_each
decreases-add_each l = 2 * processes_nodes (raw_processes l.operands.now) + 1
