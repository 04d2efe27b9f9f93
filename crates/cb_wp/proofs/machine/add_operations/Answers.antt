use Rattle.std.proofs.Common.{◌++◌, List, map, flat_map, sym, ap, ◌∙◌, arith, rules}
use Rattle.std.proofs.lemmas.List.{append-nil}
use Rattle.std.proofs.lemmas.Grind.{common_steps}
use Rattle.cb_term.proofs.Steps.{drop_step}
use Rattle.cb_spec.specs.declared.system.Operation.{Operation}
use Rattle.cb_obligations.specs.Owed.{Owed, owed_of, operation_owes}
use Rattle.cb_obligations.specs.Steps.{Step}
use Rattle.cb_wp.specs.Limits.{operation_steps, count, Faulted}
use Rattle.cb_wp.proofs.CountLemmas.{count_step, list_step, fault_step, nothing_left}
use Rattle.cb_wp.proofs.machine.add_operations.Goals as goal

pub loop-operation-preserved : goal.loop-operation-preserved
loop-operation-preserved c =
    let steps : Operation → List Step = λ o. operation_steps c.args.machine.now o in
    let owes : Operation → List Owed = λ o. operation_owes c.args.machine.now o in
    let is = drop_step _ _ c.operation-item.result c.loop-operation-test.true c.operation-item.is in
    record {
      counted = count_step steps c.operation-item.result _ _ _ _ _ _ _ is c.in_ok-add_operation.ensures.counted c.loop-operation.invariant.counted;
      list = list_step owes c.operation-item.result _ _ _ _ _ is c.in_ok-add_operation.ensures.list c.loop-operation.invariant.list;
    }

pub returns-in_err-add_operation-clause-fault : goal.returns-in_err-add_operation-clause-fault
returns-in_err-add_operation-clause-fault c =
    let steps : Operation → List Step = λ o. operation_steps c.args.machine.now o in
    let is = drop_step _ _ c.operation-item.result c.loop-operation-test.true c.operation-item.is in
    let so_far = c.loop-operation.invariant.counted ∙ ap (λ l. count c.args.used.now.obligations c.args.used.now.nodes (flat_map steps l)) c.as_slice-operation-items.ensures in
    let whole : Faulted c.in_err-add_operation.field-0.0 c.args.used.now (flat_map steps c.args.machine.now.operations) =
    fault_step steps c.operation-item.result _ _ _ c.args.used.now c.loop-operation.used c.in_err-add_operation.field-0.0 is so_far c.in_err-add_operation.ensures.fault in
    first_of (search (rules, whole), grind (arith, common_steps, whole))

pub returns-clause-list : goal.returns-clause-list
returns-clause-list c =
    let owes : Operation → List Owed = λ o. operation_owes c.args.machine.now o in
    let items : List Operation = c.as_slice-operation-items.result.now in
    sym (append-nil (map owed_of c.loop-operation.into.items))
    ∙ ap (λ l. map owed_of c.loop-operation.into.items ++ flat_map owes l) (sym (nothing_left items c.loop-operation.operation-index (omega (arith, c.loop-operation-test.false))))
    ∙ c.loop-operation.invariant.list
    ∙ ap (λ l. map owed_of c.args.into.now.items ++ flat_map owes l) c.as_slice-operation-items.ensures
