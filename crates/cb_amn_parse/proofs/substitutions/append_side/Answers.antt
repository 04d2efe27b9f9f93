use Rattle.std.proofs.lemmas.Result.{IfOk-equal}
use Rattle.cb_amn_parse.specs.Values.{stack_out}
use Rattle.cb_amn_parse.proofs.Lists.{appended_side}
use Rattle.cb_amn_parse.proofs.substitutions.append_side.Goals as goal

pub returns-clause-out : goal.returns-clause-out
returns-clause-out c =
    let last = c.pop_subst-side in
    let before = c.pop_sides-sides in
    IfOk-equal c.push.result _ _ _ c.push.ensures.out
    (appended_side (stack_out c.args.stack.now.items) (stack_out last.new.stack.items) (stack_out before.new.stack.items) before.result c.in_ok-longer.longer last.result last.ensures.out before.ensures.out c.in_ok-longer.ensures)
