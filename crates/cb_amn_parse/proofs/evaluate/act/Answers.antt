use Rattle.std.proofs.Common.{◌<◌, ◌≤◌, arith}
use Rattle.cb_amn_parse.proofs.Owning.{own_bounds}
use Rattle.cb_amn_parse.proofs.evaluate.act.Goals as goal

pub act_formula-requires-clause-one : goal.act_formula-requires-clause-one
act_formula-requires-clause-one c =
    let above : 39 < c.args.action = grind (arith, c.if-action-le-NAME_END.false) in
    let within : c.args.action ≤ 70 = grind (arith, c.if-action-le-RELATION.true) in
    ((own_bounds c.args.action c.requires.own).apart above, within)

pub act_term-requires-clause-one : goal.act_term-requires-clause-one
act_term-requires-clause-one c =
    let above : 71 ≤ c.args.action = grind (arith, c.if-action-le-RELATION.false) in
    (above, (own_bounds c.args.action c.requires.own).high)
