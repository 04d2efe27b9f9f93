use Rattle.std.proofs.Common.{◌<◌, length, refl, sym, ap, subst}
use Rattle.cb_safety_laws.specs.Causes.{IsCall}
use Rattle.cb_system.proofs.BranchLemmas.{offers_place, event_is}
use Rattle.cb_system.proofs.CallLemmas.{call_branch, call_apart, terms_typed, machine_within, machine_at, operation_within, operation_at, as_many, can_run, has_room, as_many_targets, all_there, performed_is}
use Rattle.cb_system.proofs.perform.performed_at.Goals as goal

pub branch_at-offered-requires-clause-has : goal.branch_at-offered-requires-clause-has
branch_at-offered-requires-clause-has g c = offers_place c.args.code.now c.args.store.now c.args.places.now c.args.controller c.args.branch IsCall c.requires.offers

pub values_of-requires : goal.values_of-requires
values_of-requires g c =
    let branch = call_branch c.args.code.now c.args.places.now c.args.controller c.args.branch c.branch_at-offered.result.event.now c.in-Call.machine c.in-Call.operation c.in-Call.args c.in-Call.results c.branch_at-offered.result.next c.branch_at-offered.result.env.now c.in-Call.is c.branch_at-offered.ensures in
    terms_typed c.args.system.now c.args.code.now c.args.store.now c.args.places.now c.args.controller c.args.branch c.requires c.in-Call.machine c.in-Call.operation c.in-Call.args c.in-Call.results c.branch_at-offered.result.next c.branch_at-offered.result.env.now branch

pub bounds-as_slice-machine : goal.bounds-as_slice-machine
bounds-as_slice-machine g c =
    let branch = call_branch c.args.code.now c.args.places.now c.args.controller c.args.branch c.branch_at-offered.result.event.now c.in-Call.machine c.in-Call.operation c.in-Call.args c.in-Call.results c.branch_at-offered.result.next c.branch_at-offered.result.env.now c.in-Call.is c.branch_at-offered.ensures in
    subst (λ n. c.in-Call.machine < n) (sym (ap length c.as_slice.ensures)) (machine_within c.args.system.now c.args.code.now c.args.store.now c.args.places.now c.args.controller c.args.branch c.requires c.in-Call.machine c.in-Call.operation c.in-Call.args c.in-Call.results c.branch_at-offered.result.next c.branch_at-offered.result.env.now branch c.in_ok-args-in-Call.args c.in_ok-args-in-Call.ensures)

pub bounds-as_slice-operation : goal.bounds-as_slice-operation
bounds-as_slice-operation g c =
    let branch = call_branch c.args.code.now c.args.places.now c.args.controller c.args.branch c.branch_at-offered.result.event.now c.in-Call.machine c.in-Call.operation c.in-Call.args c.in-Call.results c.branch_at-offered.result.next c.branch_at-offered.result.env.now c.in-Call.is c.branch_at-offered.ensures in
    let at = machine_at c.args.system.now c.args.code.now c.args.store.now c.args.places.now c.args.controller c.args.branch c.requires c.in-Call.machine c.in-Call.operation c.in-Call.args c.in-Call.results c.branch_at-offered.result.next c.branch_at-offered.result.env.now branch c.in_ok-args-in-Call.args c.in_ok-args-in-Call.ensures c.as_slice.result.now c.index-as_slice-machine.result c.as_slice.ensures c.index-as_slice-machine.is in
    subst (λ n. c.in-Call.operation < n) (sym (ap length c.as_slice-in-Call.ensures)) (operation_within c.args.system.now c.args.code.now c.args.store.now c.args.places.now c.args.controller c.args.branch c.requires c.in-Call.machine c.in-Call.operation c.in-Call.args c.in-Call.results c.branch_at-offered.result.next c.branch_at-offered.result.env.now branch c.in_ok-args-in-Call.args c.in_ok-args-in-Call.ensures c.index-as_slice-machine.result at)

pub call_operation-requires-clause-room : goal.call_operation-requires-clause-room
call_operation-requires-clause-room g c =
    let branch = call_branch c.args.code.now c.args.places.now c.args.controller c.args.branch c.branch_at-offered.result.event.now c.in-Call.machine c.in-Call.operation c.in-Call.args c.in-Call.results c.branch_at-offered.result.next c.branch_at-offered.result.env.now c.in-Call.is c.branch_at-offered.ensures in
    let at = machine_at c.args.system.now c.args.code.now c.args.store.now c.args.places.now c.args.controller c.args.branch c.requires c.in-Call.machine c.in-Call.operation c.in-Call.args c.in-Call.results c.branch_at-offered.result.next c.branch_at-offered.result.env.now branch c.in_ok-args-in-Call.args c.in_ok-args-in-Call.ensures c.as_slice.result.now c.index-as_slice-machine.result c.as_slice.ensures c.index-as_slice-machine.is in
    let listed = operation_at c.args.system.now c.args.code.now c.args.store.now c.args.places.now c.args.controller c.args.branch c.requires c.in-Call.machine c.in-Call.operation c.in-Call.args c.in-Call.results c.branch_at-offered.result.next c.branch_at-offered.result.env.now branch c.in_ok-args-in-Call.args c.in_ok-args-in-Call.ensures c.index-as_slice-machine.result at c.as_slice-in-Call.result.now c.index-as_slice-operation.result c.as_slice-in-Call.ensures c.index-as_slice-operation.is in
    has_room c.args.system.now c.args.code.now c.args.store.now c.args.places.now c.args.controller c.args.branch c.requires c.in-Call.machine c.in-Call.operation c.in-Call.args c.in-Call.results c.branch_at-offered.result.next c.branch_at-offered.result.env.now branch c.in_ok-args-in-Call.args c.in_ok-args-in-Call.ensures c.index-as_slice-machine.result at c.index-as_slice-operation.result listed

pub call_operation-requires-clause-as_many : goal.call_operation-requires-clause-as_many
call_operation-requires-clause-as_many g c =
    let branch = call_branch c.args.code.now c.args.places.now c.args.controller c.args.branch c.branch_at-offered.result.event.now c.in-Call.machine c.in-Call.operation c.in-Call.args c.in-Call.results c.branch_at-offered.result.next c.branch_at-offered.result.env.now c.in-Call.is c.branch_at-offered.ensures in
    let at = machine_at c.args.system.now c.args.code.now c.args.store.now c.args.places.now c.args.controller c.args.branch c.requires c.in-Call.machine c.in-Call.operation c.in-Call.args c.in-Call.results c.branch_at-offered.result.next c.branch_at-offered.result.env.now branch c.in_ok-args-in-Call.args c.in_ok-args-in-Call.ensures c.as_slice.result.now c.index-as_slice-machine.result c.as_slice.ensures c.index-as_slice-machine.is in
    let listed = operation_at c.args.system.now c.args.code.now c.args.store.now c.args.places.now c.args.controller c.args.branch c.requires c.in-Call.machine c.in-Call.operation c.in-Call.args c.in-Call.results c.branch_at-offered.result.next c.branch_at-offered.result.env.now branch c.in_ok-args-in-Call.args c.in_ok-args-in-Call.ensures c.index-as_slice-machine.result at c.as_slice-in-Call.result.now c.index-as_slice-operation.result c.as_slice-in-Call.ensures c.index-as_slice-operation.is in
    as_many c.args.system.now c.args.code.now c.args.store.now c.args.places.now c.args.controller c.args.branch c.requires c.in-Call.machine c.in-Call.operation c.in-Call.args c.in-Call.results c.branch_at-offered.result.next c.branch_at-offered.result.env.now branch c.in_ok-args-in-Call.args c.in_ok-args-in-Call.ensures c.index-as_slice-machine.result at c.index-as_slice-operation.result listed

pub call_operation-requires-clause-can : goal.call_operation-requires-clause-can
call_operation-requires-clause-can g c =
    let branch = call_branch c.args.code.now c.args.places.now c.args.controller c.args.branch c.branch_at-offered.result.event.now c.in-Call.machine c.in-Call.operation c.in-Call.args c.in-Call.results c.branch_at-offered.result.next c.branch_at-offered.result.env.now c.in-Call.is c.branch_at-offered.ensures in
    let at = machine_at c.args.system.now c.args.code.now c.args.store.now c.args.places.now c.args.controller c.args.branch c.requires c.in-Call.machine c.in-Call.operation c.in-Call.args c.in-Call.results c.branch_at-offered.result.next c.branch_at-offered.result.env.now branch c.in_ok-args-in-Call.args c.in_ok-args-in-Call.ensures c.as_slice.result.now c.index-as_slice-machine.result c.as_slice.ensures c.index-as_slice-machine.is in
    let listed = operation_at c.args.system.now c.args.code.now c.args.store.now c.args.places.now c.args.controller c.args.branch c.requires c.in-Call.machine c.in-Call.operation c.in-Call.args c.in-Call.results c.branch_at-offered.result.next c.branch_at-offered.result.env.now branch c.in_ok-args-in-Call.args c.in_ok-args-in-Call.ensures c.index-as_slice-machine.result at c.as_slice-in-Call.result.now c.index-as_slice-operation.result c.as_slice-in-Call.ensures c.index-as_slice-operation.is in
    can_run c.args.system.now c.args.code.now c.args.store.now c.args.places.now c.args.controller c.args.branch c.requires c.in-Call.machine c.in-Call.operation c.in-Call.args c.in-Call.results c.branch_at-offered.result.next c.branch_at-offered.result.env.now branch c.in_ok-args-in-Call.args c.in_ok-args-in-Call.ensures c.index-as_slice-machine.result at c.index-as_slice-operation.result listed

pub bound_over-requires : goal.bound_over-requires
bound_over-requires g c =
    let branch = call_branch c.args.code.now c.args.places.now c.args.controller c.args.branch c.branch_at-offered.result.event.now c.in-Call.machine c.in-Call.operation c.in-Call.args c.in-Call.results c.branch_at-offered.result.next c.branch_at-offered.result.env.now c.in-Call.is c.branch_at-offered.ensures in
    let at = machine_at c.args.system.now c.args.code.now c.args.store.now c.args.places.now c.args.controller c.args.branch c.requires c.in-Call.machine c.in-Call.operation c.in-Call.args c.in-Call.results c.branch_at-offered.result.next c.branch_at-offered.result.env.now branch c.in_ok-args-in-Call.args c.in_ok-args-in-Call.ensures c.as_slice.result.now c.index-as_slice-machine.result c.as_slice.ensures c.index-as_slice-machine.is in
    let listed = operation_at c.args.system.now c.args.code.now c.args.store.now c.args.places.now c.args.controller c.args.branch c.requires c.in-Call.machine c.in-Call.operation c.in-Call.args c.in-Call.results c.branch_at-offered.result.next c.branch_at-offered.result.env.now branch c.in_ok-args-in-Call.args c.in_ok-args-in-Call.ensures c.index-as_slice-machine.result at c.as_slice-in-Call.result.now c.index-as_slice-operation.result c.as_slice-in-Call.ensures c.index-as_slice-operation.is in
    as_many_targets c.args.system.now c.args.code.now c.args.store.now c.args.places.now c.args.controller c.args.branch c.requires c.in-Call.machine c.in-Call.operation c.in-Call.args c.in-Call.results c.branch_at-offered.result.next c.branch_at-offered.result.env.now branch c.in_ok-args-in-Call.args c.in_ok-args-in-Call.ensures c.index-as_slice-machine.result at c.index-as_slice-operation.result listed c.in_ok-called-in-Call.called c.in_ok-called-in-Call.ensures.ok

pub write_over-requires : goal.write_over-requires
write_over-requires g c =
    let branch = call_branch c.args.code.now c.args.places.now c.args.controller c.args.branch c.branch_at-offered.result.event.now c.in-Call.machine c.in-Call.operation c.in-Call.args c.in-Call.results c.branch_at-offered.result.next c.branch_at-offered.result.env.now c.in-Call.is c.branch_at-offered.ensures in
    let at = machine_at c.args.system.now c.args.code.now c.args.store.now c.args.places.now c.args.controller c.args.branch c.requires c.in-Call.machine c.in-Call.operation c.in-Call.args c.in-Call.results c.branch_at-offered.result.next c.branch_at-offered.result.env.now branch c.in_ok-args-in-Call.args c.in_ok-args-in-Call.ensures c.as_slice.result.now c.index-as_slice-machine.result c.as_slice.ensures c.index-as_slice-machine.is in
    let listed = operation_at c.args.system.now c.args.code.now c.args.store.now c.args.places.now c.args.controller c.args.branch c.requires c.in-Call.machine c.in-Call.operation c.in-Call.args c.in-Call.results c.branch_at-offered.result.next c.branch_at-offered.result.env.now branch c.in_ok-args-in-Call.args c.in_ok-args-in-Call.ensures c.index-as_slice-machine.result at c.as_slice-in-Call.result.now c.index-as_slice-operation.result c.as_slice-in-Call.ensures c.index-as_slice-operation.is in
    all_there c.args.system.now c.args.code.now c.args.store.now c.args.places.now c.args.controller c.args.branch c.requires c.in-Call.machine c.in-Call.operation c.in-Call.args c.in-Call.results c.branch_at-offered.result.next c.branch_at-offered.result.env.now branch c.in_ok-args-in-Call.args c.in_ok-args-in-Call.ensures c.index-as_slice-machine.result at c.index-as_slice-operation.result listed c.in_ok-called-in-Call.called c.in_ok-called-in-Call.ensures.ok c.call_operation.new.store c.in_ok-called-in-Call.ensures.names c.in_ok-called-in-Call.ensures.same

pub unreachable-requires : goal.unreachable-requires
unreachable-requires g c =
    call_apart c.branch_at-offered.result.event.now (event_is c.args.code.now c.args.store.now c.args.places.now c.args.controller c.args.branch c.branch_at-offered.result.event.now _ c.branch_at-offered.result.env.now c.branch_at-offered.ensures.shown IsCall c.requires.offers) c.in-Output.is

pub returns-clause-ok : goal.returns-clause-ok
returns-clause-ok g c =
    let branch = call_branch c.args.code.now c.args.places.now c.args.controller c.args.branch c.branch_at-offered.result.event.now c.in-Call.machine c.in-Call.operation c.in-Call.args c.in-Call.results c.branch_at-offered.result.next c.branch_at-offered.result.env.now c.in-Call.is c.branch_at-offered.ensures in
    let at = machine_at c.args.system.now c.args.code.now c.args.store.now c.args.places.now c.args.controller c.args.branch c.requires c.in-Call.machine c.in-Call.operation c.in-Call.args c.in-Call.results c.branch_at-offered.result.next c.branch_at-offered.result.env.now branch c.in_ok-args-in-Call.args c.in_ok-args-in-Call.ensures c.as_slice.result.now c.index-as_slice-machine.result c.as_slice.ensures c.index-as_slice-machine.is in
    let listed = operation_at c.args.system.now c.args.code.now c.args.store.now c.args.places.now c.args.controller c.args.branch c.requires c.in-Call.machine c.in-Call.operation c.in-Call.args c.in-Call.results c.branch_at-offered.result.next c.branch_at-offered.result.env.now branch c.in_ok-args-in-Call.args c.in_ok-args-in-Call.ensures c.index-as_slice-machine.result at c.as_slice-in-Call.result.now c.index-as_slice-operation.result c.as_slice-in-Call.ensures c.index-as_slice-operation.is in
    performed_is c.args.system.now c.args.code.now c.args.store.now c.args.places.now c.args.controller c.args.branch c.requires c.in-Call.machine c.in-Call.operation c.in-Call.args c.in-Call.results c.branch_at-offered.result.next c.branch_at-offered.result.env.now branch c.in_ok-args-in-Call.args c.in_ok-args-in-Call.ensures c.index-as_slice-machine.result at c.index-as_slice-operation.result listed c.in_ok-called-in-Call.called c.in_ok-called-in-Call.ensures.ok
    (record {
      machine = c.in-Call.machine;
      operation = c.in-Call.operation;
      args = c.in_ok-args-in-Call.args;
      called = record { results = c.in_ok-called-in-Call.called.results; written = c.in_ok-called-in-Call.called.written };
      next = c.branch_at-offered.result.next;
      env = c.in_ok-env-in-Call.env;
    }) refl refl refl refl refl c.in_ok-env-in-Call.ensures
