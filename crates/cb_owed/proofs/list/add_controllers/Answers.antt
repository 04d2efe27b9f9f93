use Rattle.std.proofs.Common.{◌≡◌, List, ◌++◌, map, flat_map, Some, slice_get, refl, sym, ap, subst, ◌∙◌, arith, rules}
use Rattle.std.proofs.lemmas.List.{append-nil}
use Rattle.std.proofs.lemmas.Grind.{common_steps}
use Rattle.std.proofs.lemmas.Option.{slice_get_read}
use Rattle.cb_term.proofs.Steps.{drop_step}
use Rattle.cb_spec.specs.declared.system.Controller.{Controller}
use Rattle.cb_obligations.specs.Owed.{Owed, owed_of}
use Rattle.cb_obligations.specs.Steps.{Step}
use Rattle.cb_wp.specs.Limits.{Faulted, count}
use Rattle.cb_wp.proofs.CountLemmas.{count_step, list_step, fault_step, nothing_left}
use Rattle.cb_conditions.specs.Conditions.{controller_owes}
use Rattle.cb_owed.specs.Limits.{controller_steps}
use Rattle.cb_owed.proofs.list.add_controllers.Goals as goal

pub add_controller-requires : goal.add_controller-requires
add_controller-requires c =
    c.typed_controllers_are_plain.ensures c.args.system.now c.requires c.loop-controller.controller-index c.controller-item.result
    (subst (λ (xs : List Controller). slice_get xs c.loop-controller.controller-index ≡ Some c.controller-item.result) c.as_slice-controller-items.ensures
    (slice_get_read c.as_slice-controller-items.result.now _ c.loop-controller.controller-index c.controller-item.result refl c.loop-controller-test.true c.controller-item.is))

pub loop-controller-preserved : goal.loop-controller-preserved
loop-controller-preserved c =
    let steps : Controller → List Step = λ k. controller_steps c.args.system.now k in
    let owes : Controller → List Owed = λ k. controller_owes c.args.system.now k in
    let is = drop_step _ _ c.controller-item.result c.loop-controller-test.true c.controller-item.is in
    record {
      counted = count_step steps c.controller-item.result _ _ _ _ _ _ _ is c.in_ok-add_controller.ensures.counted c.loop-controller.invariant.counted;
      list = list_step owes c.controller-item.result _ _ _ _ _ is c.in_ok-add_controller.ensures.list c.loop-controller.invariant.list;
    }

pub returns-in_err-add_controller-clause-fault : goal.returns-in_err-add_controller-clause-fault
returns-in_err-add_controller-clause-fault c =
    let steps : Controller → List Step = λ k. controller_steps c.args.system.now k in
    let is = drop_step _ _ c.controller-item.result c.loop-controller-test.true c.controller-item.is in
    let so_far = c.loop-controller.invariant.counted ∙ ap (λ l. count c.args.used.now.obligations c.args.used.now.nodes (flat_map steps l)) c.as_slice-controller-items.ensures in
    let whole : Faulted c.in_err-add_controller.field-0.0 c.args.used.now (flat_map steps c.args.system.now.controllers) =
    fault_step steps c.controller-item.result _ _ _ c.args.used.now c.loop-controller.used c.in_err-add_controller.field-0.0 is so_far c.in_err-add_controller.ensures.fault in
    first_of (search (rules, whole), grind (arith, common_steps, whole))

pub returns-clause-list : goal.returns-clause-list
returns-clause-list c =
    let owes : Controller → List Owed = λ k. controller_owes c.args.system.now k in
    let items : List Controller = c.as_slice-controller-items.result.now in
    sym (append-nil (map owed_of c.loop-controller.into.items))
    ∙ ap (λ l. map owed_of c.loop-controller.into.items ++ flat_map owes l) (sym (nothing_left items c.loop-controller.controller-index (omega (arith, c.loop-controller-test.false))))
    ∙ c.loop-controller.invariant.list
    ∙ ap (λ l. map owed_of c.args.into.now.items ++ flat_map owes l) c.as_slice-controller-items.ensures
