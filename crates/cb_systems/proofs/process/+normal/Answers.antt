use Rattle.std.proofs.Common.{◌≡◌, ◌∙◌, refl, sym, subst, map, arith}
use Rattle.cb_lex.specs.RawProcessTree.{raw_processes}
use Rattle.cb_flow.proofs.Walks.{operand_nodes}
use Rattle.cb_signatures.specs.Calls.{AreCallees}
use Rattle.cb_text_laws.specs.Signatures.{value_forms}
use Rattle.cb_processes.proofs.Fronts.{left_event}
use Rattle.cb_systems.proofs.Shapes.{external_chain, internal_chain, joins_step, if_of_parts, prefix_of_parts}
use Rattle.cb_systems.proofs.process.+normal.Goals as goal

pub normal_joins-with_operand-requires : goal.normal_joins-with_operand-requires
normal_joins-with_operand-requires t c =
    let a = c.args.around.now in
    let fewer = operand_nodes c.args.operands.now c.loop-operand.operand-index c.operand-item.result c.loop-operand-test.true c.operand-item.is in
    let same = sym c.loop-operand.invariant.1 in
    let forms = subst (λ g. a.forms.now ≡ map (value_forms a.view.now g) a.channels.now) same c.requires.forms in
    let operations = subst (λ g. AreCallees a.known.now g a.machines.now a.operations.now) same c.requires.operations in
    (omega (arith, fewer, c.decreases), (forms, operations))

pub normal_joins-loop-operand-preserved : goal.normal_joins-loop-operand-preserved
normal_joins-loop-operand-preserved t c =
    let a = c.args.around.now in
    let kept = c.loop-operand.invariant in
    let step = joins_step a.known.now c.args.globals.now a.machines.now a.channels.now a.view.now a.own.now a.definitions.now c.args.names.now
    c.args.sign c.loop-operand.globals c.loop-operand.names c.args.operands.now c.loop-operand.operand-index c.operand-item.result
    c.loop-operand.done c.in_ok-done.done c.loop-operand-test.true c.operand-item.is kept.1 kept.2 c.in_ok-done.ensures.tree in
    (step ∙ kept.0, c.in_ok-done.ensures.globals ∙ kept.1, c.in_ok-done.ensures.names ∙ kept.2)

pub normal_prefix-returns-clause-names : goal.normal_prefix-returns-clause-names
normal_prefix-returns-clause-names t c =
    let a = c.args.around.now in
    left_event a.known.now c.args.globals.now a.machines.now a.channels.now a.view.now a.own.now a.definitions.now
    c.args.names.now c.event_and_rest.new.names c.event_and_rest.new.names c.leave.new.self c.len-outside.result c.args.event.now
    c.in_ok-normal.ensures.names refl c.len-outside.ensures c.leave.ensures

pub event_and_rest-returns-clause-tree : goal.event_and_rest-returns-clause-tree
event_and_rest-returns-clause-tree t c =
    let a = c.args.around.now in
    prefix_of_parts a.known.now c.args.globals.now a.machines.now a.channels.now a.view.now a.own.now a.definitions.now c.args.names.now
    c.normal_event.new.globals c.normal_event.new.names c.args.event.now c.args.process.now c.in_ok-event.event c.in_ok-then.then.value c.prefix.result
    c.in_ok-event.ensures.globals c.in_ok-event.ensures.names c.in_ok-event.ensures.event c.in_ok-then.ensures.tree c.prefix.ensures

pub normal_if-returns-clause-tree : goal.normal_if-returns-clause-tree
normal_if-returns-clause-tree t c =
    let a = c.args.around.now in
    if_of_parts a.known.now c.args.globals.now a.machines.now a.channels.now a.view.now a.own.now a.definitions.now c.args.names.now
    c.boxed_process.new.globals c.boxed_process.new.names c.args.condition.now c.args.then.now c.args.otherwise.now
    c.in_ok-test.test c.in_ok-test.then.value c.in_ok-other.other.value c.branch-test-2.result
    c.in_ok-other.ensures.globals c.in_ok-other.ensures.names c.in_ok-test.ensures.test c.in_ok-test.ensures.then c.in_ok-other.ensures.tree c.branch-test-2.ensures

pub normal_process-returns-in-External-clause-form : goal.normal_process-returns-in-External-clause-form
normal_process-returns-in-External-clause-form t c =
    let a = c.args.around.now in
    let whole = external_chain a.known.now c.args.globals.now a.machines.now a.channels.now a.view.now a.own.now a.definitions.now c.args.names.now (raw_processes c.as_slice-operands.result.now) in
    grind (arith, whole)

pub normal_process-returns-in-Internal-clause-form : goal.normal_process-returns-in-Internal-clause-form
normal_process-returns-in-Internal-clause-form t c =
    let a = c.args.around.now in
    let whole = internal_chain a.known.now c.args.globals.now a.machines.now a.channels.now a.view.now a.own.now a.definitions.now c.args.names.now (raw_processes c.as_slice-operands-in-Internal.result.now) in
    grind (arith, whole)
