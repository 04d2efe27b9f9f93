use Rattle.std.proofs.lemmas.Result.{IfOk-equal}
use Rattle.cb_amn_parse.specs.Values.{stack_out, kinds_of}
use Rattle.cb_csp_parse.proofs.StackChains.{appended_process}
use Rattle.cb_csp_parse.proofs.processes.append_process.Goals as goal

pub returns-clause-out : goal.returns-clause-out
returns-clause-out c =
    let last = c.pop_process-process in
    let before = c.pop_chain-chain in
    IfOk-equal c.push.result _ _ _ c.push.ensures.out
    (appended_process c.args.stack.now.items before.new.stack.items (kinds_of last.new.stack.items) (stack_out last.new.stack.items) before.result c.in_ok-longer.longer last.result
    c.requires.begun last.ensures.out before.ensures.out last.ensures.below before.ensures.below c.in_ok-longer.ensures)
