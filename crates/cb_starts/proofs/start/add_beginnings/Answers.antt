use Rattle.std.proofs.Common.{List, map, flat_map, ap, arith, rules}
use Rattle.std.proofs.lemmas.Grind.{common_steps}
use Rattle.cb_term.proofs.Steps.{drop_step}
use Rattle.cb_seq.specs.Validity.{Claim}
use Rattle.cb_obligations.specs.Branches.{Branch}
use Rattle.cb_obligations.specs.Steps.{Step}
use Rattle.cb_wp.specs.Limits.{Faulted}
use Rattle.cb_wp.specs.Parts.{branch_of}
use Rattle.cb_wp.proofs.CountLemmas.{count_step, list_step, fault_step}
use Rattle.cb_starts.specs.Starts.{beginning_steps, beginning_ways}
use Rattle.cb_starts.proofs.start.add_beginnings.Goals as goal

pub loop-branch-preserved : goal.loop-branch-preserved
loop-branch-preserved c =
    let steps : Branch → List Step = λ b. beginning_steps c.args.system.now c.args.controller.now b in
    let owes : Branch → List Claim = λ b. beginning_ways c.args.system.now c.args.controller.now b in
    let is = ap (map branch_of) (drop_step _ _ c.branch-item.result c.loop-branch-test.true c.branch-item.is) in
    record {
      counted = count_step steps (branch_of c.branch-item.result) _ _ _ _ _ _ _ is c.in_ok-add_beginning.ensures.counted c.loop-branch.invariant.counted;
      list = list_step owes (branch_of c.branch-item.result) _ _ _ _ _ is c.in_ok-add_beginning.ensures.list c.loop-branch.invariant.list;
    }

pub returns-in_err-add_beginning-clause-fault : goal.returns-in_err-add_beginning-clause-fault
returns-in_err-add_beginning-clause-fault c =
    let steps : Branch → List Step = λ b. beginning_steps c.args.system.now c.args.controller.now b in
    let is = ap (map branch_of) (drop_step _ _ c.branch-item.result c.loop-branch-test.true c.branch-item.is) in
    let whole : Faulted c.in_err-add_beginning.field-0.0 c.args.made.now.used (flat_map steps (map branch_of c.args.branches.now)) =
    fault_step steps (branch_of c.branch-item.result) _ _ (map branch_of c.args.branches.now) c.args.made.now.used c.loop-branch.made.used c.in_err-add_beginning.field-0.0 is c.loop-branch.invariant.counted c.in_err-add_beginning.ensures.fault in
    first_of (search (rules, whole), grind (arith, common_steps, whole))
