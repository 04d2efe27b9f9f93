use Rattle.std.proofs.Common.{List, flat_map, ap, ◌∙◌, arith, rules}
use Rattle.std.proofs.lemmas.Grind.{common_steps}
use Rattle.cb_term.proofs.Steps.{drop_step}
use Rattle.cb_spec.specs.declared.system.Definition.{Definition}
use Rattle.cb_obligations.specs.Steps.{Step}
use Rattle.cb_wp.specs.Limits.{Faulted, count}
use Rattle.cb_wp.proofs.CountLemmas.{count_step, fault_step}
use Rattle.cb_owed.specs.Parts.{definition_steps}
use Rattle.cb_owed.proofs.Listed.{owes_step}
use Rattle.cb_owed.proofs.list.add_definitions.Goals as goal

pub loop-definition-preserved : goal.loop-definition-preserved
loop-definition-preserved c =
    let y = c.args.system.now in
    let k = c.args.controller.now in
    let steps : Definition → List Step = λ d. definition_steps y k d in
    let is = drop_step _ _ c.definition-item.result c.loop-definition-test.true c.definition-item.is in
    record {
      counted = count_step steps c.definition-item.result _ _ _ _ _ _ _ is c.in_ok-add_definition.ensures.counted c.loop-definition.invariant.counted;
      list = owes_step y k c.definition-item.result _ _ _ _ _ is c.in_ok-add_definition.ensures.list c.loop-definition.invariant.list;
    }

pub returns-in_err-add_definition-clause-fault : goal.returns-in_err-add_definition-clause-fault
returns-in_err-add_definition-clause-fault c =
    let steps : Definition → List Step = λ d. definition_steps c.args.system.now c.args.controller.now d in
    let is = drop_step _ _ c.definition-item.result c.loop-definition-test.true c.definition-item.is in
    let so_far = c.loop-definition.invariant.counted ∙ ap (λ l. count c.args.used.now.obligations c.args.used.now.nodes (flat_map steps l)) c.as_slice-definition-items.ensures in
    let whole : Faulted c.in_err-add_definition.field-0.0 c.args.used.now (flat_map steps c.args.controller.now.definitions) =
    fault_step steps c.definition-item.result _ _ c.args.controller.now.definitions c.args.used.now c.loop-definition.used c.in_err-add_definition.field-0.0 is so_far c.in_err-add_definition.ensures.fault in
    first_of (search (rules, whole), grind (arith, common_steps, whole))
