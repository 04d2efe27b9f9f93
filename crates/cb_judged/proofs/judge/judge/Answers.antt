use Rattle.cb_judged.proofs.Keeping.{judged_tells}
use Rattle.cb_judged.proofs.judge.judge.Goals as goal

pub new-requires-clause-tells : goal.new-requires-clause-tells
new-requires-clause-tells c =
    judged_tells c.derived_is_valid.ensures c.derives_without_bad.ensures c.typed_machines_owe_kinded.ensures c.typed_systems_owe_kinded.ensures
    c.args.system c.requires c.args.proofs.now c.in_ok-lines.lines.items c.in_ok-lines.ensures.lines
