use Rattle.std.proofs.Common.{◌≤◌, arith}
use Rattle.cb_cert.proofs.Owning.{at_most, own_action}
use Rattle.cb_cert.proofs.evaluate.act.Goals as goal

pub act-requires-clause-own : goal.act-requires-clause-own
act-requires-clause-own c = own_action c.args.action c.requires.own c.if-action-le-LISTED.true

pub act_rule-requires-clause-one : goal.act_rule-requires-clause-one
act_rule-requires-clause-one c =
    let above : 96 ≤ c.args.action = grind (arith, c.if-action-le-MINUS_ROW.false) in
    (above, at_most c.args.action c.requires.own)
