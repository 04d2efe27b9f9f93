use Rattle.std.proofs.lemmas.Result.{IfOk-equal}
use Rattle.cb_amn_parse.specs.Values.{stack_out}
use Rattle.cb_cert.proofs.Lists.{appended_node}
use Rattle.cb_cert.proofs.nodes.append_node.Goals as goal

pub returns-clause-out : goal.returns-clause-out
returns-clause-out c =
    let last = c.pop_node-cert in
    let before = c.pop_nodes-certs in
    IfOk-equal c.push.result _ _ _ c.push.ensures.out
    (appended_node (stack_out c.args.stack.now.items) (stack_out last.new.stack.items) (stack_out before.new.stack.items) before.result.items c.in_ok-longer.longer.items last.result last.ensures.out before.ensures.out c.in_ok-longer.ensures)
