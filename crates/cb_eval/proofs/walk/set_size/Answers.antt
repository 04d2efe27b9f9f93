use Rattle.std.proofs.Common.{◌∙◌, arith}
use Rattle.std.proofs.lemmas.Grind.{common_steps}
use Rattle.cb_eval.proofs.SetLemmas.{size_here, size_past}
use Rattle.cb_eval.proofs.walk.set_size.Goals as goal

pub returns-in-Some : goal.returns-in-Some
returns-in-Some c =
    c.len.ensures ∙ size_here c.args.sets.now.sets.items c.args.set c.in-Some.names.now (grind (arith, common_steps)) (grind (arith, common_steps))

pub returns-in-None : goal.returns-in-None
returns-in-None c = size_past c.args.sets.now.sets.items c.args.set (grind (arith, common_steps))
