use Rattle.std.proofs.Common.{rules, arith}
use Rattle.std.proofs.lemmas.Grind.{common_steps}
use Rattle.std.proofs.lemmas.Result.{on_ok_weaker, IfErr-weaker}
use Rattle.cb_wp.specs.Limits.{Faulted}
use Rattle.cb_conditions.specs.Steps.{loop_steps, match_steps}
use Rattle.cb_owed.specs.Parts.{definition_steps}
use Rattle.cb_ways.proofs.WalkLemmas.{faulted_before, faulted_after}
use Rattle.cb_starts.proofs.Counting.{counted_on}
use Rattle.cb_owed.proofs.list.add_definition.Goals as goal

pub returns-in_err-add_loop-clause-fault : goal.returns-in_err-add_loop-clause-fault
returns-in_err-add_loop-clause-fault c =
    let y = c.args.system.now in
    let k = c.args.controller.now in
    let d = c.args.definition.now in
    let whole : Faulted c.in_err-add_loop.field-0.0 c.args.used.now (definition_steps y k d) =
    faulted_before c.in_err-add_loop.field-0.0 c.args.used.now (loop_steps y k d) (match_steps y d) c.in_err-add_loop.ensures.fault in
    first_of (search (rules, whole), grind (arith, common_steps, whole))

pub returns-clause-counted : goal.returns-clause-counted
returns-clause-counted c =
    let y = c.args.system.now in
    let k = c.args.controller.now in
    let d = c.args.definition.now in
    on_ok_weaker c.add_match.result
    (counted_on (loop_steps y k d) (match_steps y d) c.args.used.now c.add_loop.new.used c.add_match.new.used c.in_ok-add_loop.ensures.counted)
    c.add_match.ensures.counted

pub returns-clause-fault : goal.returns-clause-fault
returns-clause-fault c =
    let y = c.args.system.now in
    let k = c.args.controller.now in
    let d = c.args.definition.now in
    IfErr-weaker c.add_match.result _ _
    (λ e f. faulted_after e c.args.used.now c.add_loop.new.used (loop_steps y k d) (match_steps y d) c.in_ok-add_loop.ensures.counted f)
    c.add_match.ensures.fault
