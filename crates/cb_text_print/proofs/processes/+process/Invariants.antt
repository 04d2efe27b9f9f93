use Rattle.std.proofs.Common.{◌≡◌, ◌++◌, ◌+◌, ◌*◌, drop, true}
use Rattle.cb_lex.specs.RawProcessTree.{raw_processes, process_nodes, processes_nodes}
use Rattle.cb_text_print.specs.Processes.{chain_text}
use Rattle.cb_text_print.proofs.processes.+process.Given as goal

abbrev pub invariant-put_chain-loop-operand : goal.invariant-put_chain-loop-operand
invariant-put_chain-loop-operand l = l.out.items ++ chain_text l.sign l.first (raw_processes (drop l.operand-index l.operands)) ≡ l.initial.out.items ++ chain_text l.sign true (raw_processes l.operands)

abbrev pub decreases-put_process : goal.decreases-put_process
decreases-put_process l = 2 * process_nodes l.process.now

abbrev pub decreases-put_chain : goal.decreases-put_chain
decreases-put_chain l = 2 * processes_nodes (raw_processes l.operands.now) + 1
