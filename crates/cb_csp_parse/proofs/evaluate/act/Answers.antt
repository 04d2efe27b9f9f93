use Rattle.std.proofs.Common.{◌<◌, ◌≤◌, arith}
use Rattle.cb_csp_parse.proofs.TextOwning.{of_machines}
use Rattle.cb_csp_parse.proofs.evaluate.act.Goals as goal

pub act-requires-clause-own : goal.act-requires-clause-own
act-requires-clause-own c =
    let low : 5 < c.args.action = grind (arith, c.if-action-le-SYSTEM.false) in
    let high : c.args.action ≤ 39 = grind (arith, c.if-action-le-NAME_END.true) in
    of_machines c.args.action c.requires.own low (λ h. omega (arith, h, high))

pub act-requires-else-action-le-OPERATION_CALL-clause-own : goal.act-requires-else-action-le-OPERATION_CALL-clause-own
act-requires-else-action-le-OPERATION_CALL-clause-own c =
    let low : 60 < c.args.action = grind (arith, c.if-action-le-OPERATION_CALL.false) in
    of_machines c.args.action c.requires.own (omega (arith, low)) (λ h. low)
