use Rattle.std.proofs.Common.{flat_map, subst, rules, arith}
use Rattle.std.proofs.lemmas.Grind.{common_steps}
use Rattle.std.proofs.lemmas.Result.{on_ok_weaker, IfErr-weaker}
use Rattle.cb_wp.specs.Limits.{Counted, Faulted, machine_steps}
use Rattle.cb_owed.specs.Limits.{system_steps}
use Rattle.cb_owed.specs.Parts.{controllers_steps}
use Rattle.cb_ways.proofs.WalkLemmas.{faulted_before, faulted_after}
use Rattle.cb_starts.proofs.Counting.{counted_on}
use Rattle.cb_owed.proofs.list.add_system.Goals as goal

pub returns-in_err-add_machines-clause-fault : goal.returns-in_err-add_machines-clause-fault
returns-in_err-add_machines-clause-fault c =
    let y = c.args.system.now in
    let whole : Faulted c.in_err-add_machines.field-0.0 c.args.used.now (system_steps y) =
    faulted_before c.in_err-add_machines.field-0.0 c.args.used.now (flat_map machine_steps y.machines) (controllers_steps y y.controllers)
    (subst (λ ms. Faulted c.in_err-add_machines.field-0.0 c.args.used.now (flat_map machine_steps ms)) c.as_slice.ensures c.in_err-add_machines.ensures.fault) in
    first_of (search (rules, whole), grind (arith, common_steps, whole))

pub returns-clause-counted : goal.returns-clause-counted
returns-clause-counted c =
    let y = c.args.system.now in
    on_ok_weaker c.add_controllers.result
    (counted_on (flat_map machine_steps y.machines) (controllers_steps y y.controllers) c.args.used.now c.add_machines.new.used c.add_controllers.new.used
    (subst (λ ms. Counted c.args.used.now c.add_machines.new.used (flat_map machine_steps ms)) c.as_slice.ensures c.in_ok-add_machines.ensures.counted))
    c.add_controllers.ensures.counted

pub returns-clause-fault : goal.returns-clause-fault
returns-clause-fault c =
    let y = c.args.system.now in
    IfErr-weaker c.add_controllers.result _ _
    (λ e f. faulted_after e c.args.used.now c.add_machines.new.used (flat_map machine_steps y.machines) (controllers_steps y y.controllers)
    (subst (λ ms. Counted c.args.used.now c.add_machines.new.used (flat_map machine_steps ms)) c.as_slice.ensures c.in_ok-add_machines.ensures.counted) f)
    c.add_controllers.ensures.fault
