use Rattle.std.proofs.Common.{◌≡◌, ◌+◌, ◌*◌, ◌&&◌, drop}
use Rattle.cb_lex.specs.RawProcessTree.{raw_processes, process_nodes, processes_nodes}
use Rattle.cb_forms.specs.Faults.{least, first}
use Rattle.cb_text_laws.specs.ProcessFaults.{place_of_first, are_operands, operands_fault, processes_fault}
use Rattle.cb_processes.specs.Chains.{or_place}
use Rattle.cb_processes.proofs.process.+judge.Given as goal

abbrev pub invariant-judge_chain-loop-operand : goal.invariant-judge_chain-loop-operand
invariant-judge_chain-loop-operand l =
    (least l.chain.fault (first (processes_fault l.around.known.now l.fn.globals l.around.machines.now l.around.channels.now l.around.view.now l.around.own.now l.around.definitions.now l.number l.fn.names l.guarded (raw_processes (drop l.operand-index l.operands))))
    ≡ first (processes_fault l.around.known.now l.fn.globals l.around.machines.now l.around.channels.now l.around.view.now l.around.own.now l.around.definitions.now l.number l.fn.names l.guarded (raw_processes l.operands)))
    × (least l.chain.stranger (first (operands_fault (raw_processes (drop l.operand-index l.operands)))) ≡ first (operands_fault (raw_processes l.operands)))
    × ((l.chain.are_operands && are_operands (raw_processes (drop l.operand-index l.operands))) ≡ are_operands (raw_processes l.operands))
    × (or_place l.chain.place (place_of_first (raw_processes (drop l.operand-index l.operands))) ≡ place_of_first (raw_processes l.operands))
    × (l.globals ≡ l.fn.globals)
    × (l.names ≡ l.fn.names)

abbrev pub decreases-judge : goal.decreases-judge
decreases-judge l = 2 * process_nodes l.process.now

abbrev pub decreases-judge_chain : goal.decreases-judge_chain
decreases-judge_chain l = 2 * processes_nodes (raw_processes l.operands.now) + 1
