use Rattle.std.proofs.Common.{◌≡◌, ◌+◌, ◌*◌, drop}
use Rattle.cb_lex.specs.RawProcessTree.{raw_processes, process_nodes, processes_nodes}
use Rattle.cb_forms.specs.Faults.{least, first}
use Rattle.cb_text_laws.specs.SilentFaults.{each_after_fault}
use Rattle.cb_flow.proofs.silent.+after.Given as goal

abbrev pub invariant-each_after-loop-operand : goal.invariant-each_after-loop-operand
invariant-each_after-loop-operand l =
    least l.fault (first (each_after_fault l.costs (raw_processes (drop l.operand-index l.operands)))) ≡ first (each_after_fault l.costs (raw_processes l.operands))

abbrev pub decreases-after : goal.decreases-after
decreases-after l = 2 * process_nodes l.process.now

abbrev pub decreases-each_after : goal.decreases-each_after
decreases-each_after l = 2 * processes_nodes (raw_processes l.operands.now) + 1
