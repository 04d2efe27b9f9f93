use Rattle.std.proofs.Common.{arith}
use Rattle.cb_text_print.proofs.Operands.{operand_nodes}
use Rattle.cb_text_print.proofs.processes.+process.Goals as goal

pub put_chain-put_process-requires : goal.put_chain-put_process-requires
put_chain-put_process-requires t c =
    let fewer = operand_nodes c.args.operands.now c.loop-operand.operand-index c.operand-item.result c.loop-operand-test.true c.operand-item.is in
    (omega (arith, fewer, c.decreases), tt)
