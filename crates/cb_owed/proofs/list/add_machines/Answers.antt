use Rattle.std.proofs.Common.{flat_map, arith, rules}
use Rattle.std.proofs.lemmas.Grind.{common_steps}
use Rattle.cb_term.proofs.Steps.{drop_step}
use Rattle.cb_obligations.specs.Owed.{machine_owes}
use Rattle.cb_wp.specs.Limits.{Faulted, machine_steps}
use Rattle.cb_wp.proofs.CountLemmas.{count_step, list_step, fault_step}
use Rattle.cb_owed.proofs.Listed.{first_within, rest_within, faulted}
use Rattle.cb_owed.proofs.list.add_machines.Goals as goal

pub loop-machine-preserved : goal.loop-machine-preserved
loop-machine-preserved c =
    let is = drop_step _ _ c.machine-item.result c.loop-machine-test.true c.machine-item.is in
    record {
      within = rest_within _ _ c.machine-item.result is c.loop-machine.invariant.within;
      counted = count_step machine_steps c.machine-item.result _ _ _ _ _ _ _ is c.in_ok-add_machine.ensures.counted c.loop-machine.invariant.counted;
      list = list_step machine_owes c.machine-item.result _ _ _ _ _ is c.in_ok-add_machine.ensures.list c.loop-machine.invariant.list;
    }

pub returns-in_err-add_machine-clause-fault : goal.returns-in_err-add_machine-clause-fault
returns-in_err-add_machine-clause-fault c =
    let is = drop_step _ _ c.machine-item.result c.loop-machine-test.true c.machine-item.is in
    let here = faulted c.in_err-add_machine.field-0.0 c.loop-machine.used c.machine-item.result (first_within _ _ c.machine-item.result is c.loop-machine.invariant.within) c.in_err-add_machine.ensures.fault in
    let whole : Faulted c.in_err-add_machine.field-0.0 c.args.used.now (flat_map machine_steps c.args.machines.now) =
    fault_step machine_steps c.machine-item.result _ _ _ c.args.used.now c.loop-machine.used c.in_err-add_machine.field-0.0 is c.loop-machine.invariant.counted here in
    first_of (search (rules, whole), grind (arith, common_steps, whole))
