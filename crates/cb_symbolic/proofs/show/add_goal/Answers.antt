use Rattle.std.proofs.Common.{arith}
use Rattle.std.proofs.lemmas.Grind.{common_steps}
use Rattle.cb_seq.specs.Validity.{Claim}
use Rattle.cb_symbolic.specs.Walks.{claim_inside}
use Rattle.cb_symbolic.proofs.ShowLemmas.{claim_size}
use Rattle.cb_symbolic.proofs.show.add_goal.Goals as goal

pub returns-in_err-count_sequent-clause-fault : goal.returns-in_err-count_sequent-clause-fault
returns-in_err-count_sequent-clause-fault c =
    let q : Claim = claim_inside c.args.opened.now c.args.walk.now c.args.formula.now in
    let size = claim_size c.args.opened.now c.args.walk.now c.args.formula.now c.args.carried c.nodes.result c.saturating_add-nodes.result
    c.requires c.nodes.ensures c.saturating_add-nodes.ensures in
    let fault = c.in_err-count_sequent.ensures.fault q size in
    grind (arith, common_steps, fault)

pub returns-clause-counted : goal.returns-clause-counted
returns-clause-counted c =
    let q : Claim = claim_inside c.args.opened.now c.args.walk.now c.args.formula.now in
    c.in_ok-count_sequent.ensures.counted q (claim_size c.args.opened.now c.args.walk.now c.args.formula.now c.args.carried c.nodes.result c.saturating_add-nodes.result
    c.requires c.nodes.ensures c.saturating_add-nodes.ensures)
