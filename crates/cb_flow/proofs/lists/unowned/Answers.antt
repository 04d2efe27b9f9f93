use Rattle.std.proofs.Common.{arith}
use Rattle.std.proofs.lemmas.Grind.{common_steps}
use Rattle.cb_forms.proofs.Order.{least_assoc}
use Rattle.cb_flow.proofs.lists.unowned.Goals as goal

pub loop-machine-preserved : goal.loop-machine-preserved
loop-machine-preserved c = grind (arith, common_steps, least_assoc)
