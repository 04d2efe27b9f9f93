use Rattle.std.proofs.Common.{rules, arith}
use Rattle.std.proofs.lemmas.Grind.{common_steps}
use Rattle.std.proofs.lemmas.Result.{on_ok_weaker, IfErr-weaker}
use Rattle.cb_wp.specs.Limits.{Faulted}
use Rattle.cb_conditions.specs.Steps.{start_steps}
use Rattle.cb_owed.specs.Limits.{definitions_steps, controller_steps}
use Rattle.cb_ways.proofs.WalkLemmas.{faulted_before, faulted_after}
use Rattle.cb_starts.proofs.Counting.{counted_on}
use Rattle.cb_owed.proofs.list.add_controller.Goals as goal

pub returns-in_err-add_start-clause-fault : goal.returns-in_err-add_start-clause-fault
returns-in_err-add_start-clause-fault c =
    let y = c.args.system.now in
    let k = c.args.controller.now in
    let whole : Faulted c.in_err-add_start.field-0.0 c.args.used.now (controller_steps y k) =
    faulted_before c.in_err-add_start.field-0.0 c.args.used.now (start_steps y k) (definitions_steps y k k.definitions) c.in_err-add_start.ensures.fault in
    first_of (search (rules, whole), grind (arith, common_steps, whole))

pub returns-clause-counted : goal.returns-clause-counted
returns-clause-counted c =
    let y = c.args.system.now in
    let k = c.args.controller.now in
    on_ok_weaker c.add_definitions.result
    (counted_on (start_steps y k) (definitions_steps y k k.definitions) c.args.used.now c.add_start.new.used c.add_definitions.new.used c.in_ok-add_start.ensures.counted)
    c.add_definitions.ensures.counted

pub returns-clause-fault : goal.returns-clause-fault
returns-clause-fault c =
    let y = c.args.system.now in
    let k = c.args.controller.now in
    IfErr-weaker c.add_definitions.result _ _
    (λ e f. faulted_after e c.args.used.now c.add_start.new.used (start_steps y k) (definitions_steps y k k.definitions) c.in_ok-add_start.ensures.counted f)
    c.add_definitions.ensures.fault
