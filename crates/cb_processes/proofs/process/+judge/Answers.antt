use Rattle.std.proofs.Common.{◌≡◌, sym, subst, map, arith}
use Rattle.std.proofs.lemmas.Grind.{common_steps}
use Rattle.cb_forms.proofs.Order.{least_assoc}
use Rattle.cb_flow.proofs.Walks.{operand_nodes}
use Rattle.cb_signatures.specs.Calls.{AreCallees}
use Rattle.cb_text_laws.specs.Signatures.{value_forms}
use Rattle.cb_processes.proofs.Fronts.{left_event}
use Rattle.cb_processes.proofs.process.+judge.Goals as goal

pub judge-returns-in_ok-rest-in-Prefix-clause-names : goal.judge-returns-in_ok-rest-in-Prefix-clause-names
judge-returns-in_ok-rest-in-Prefix-clause-names t c =
    let a = c.args.around.now in
    left_event a.known.now c.args.globals.now a.machines.now a.channels.now a.view.now a.own.now a.definitions.now
    c.args.names.now c.judge_event.new.names c.judge-in-Prefix.new.names c.leave.new.self c.len-outside.result c.in-Prefix.event
    c.in_ok-own-in-Prefix.ensures.names c.in_ok-rest-in-Prefix.ensures.names c.len-outside.ensures c.leave.ensures

pub judge_chain-judge-requires : goal.judge_chain-judge-requires
judge_chain-judge-requires t c =
    let a = c.args.around.now in
    let fewer = operand_nodes c.args.operands.now c.loop-operand.operand-index c.operand-item.result c.loop-operand-test.true c.operand-item.is in
    let same = sym c.loop-operand.invariant.4 in
    let forms = subst (λ g. a.forms.now ≡ map (value_forms a.view.now g) a.channels.now) same c.requires.forms in
    let operations = subst (λ g. AreCallees a.known.now g a.machines.now a.operations.now) same c.requires.operations in
    (omega (arith, fewer, c.decreases), (forms, operations))

pub judge_chain-loop-operand-preserved : goal.judge_chain-loop-operand-preserved
judge_chain-loop-operand-preserved t c = grind (arith, common_steps, least_assoc)
