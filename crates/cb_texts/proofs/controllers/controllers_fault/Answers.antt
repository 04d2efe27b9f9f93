use Rattle.std.proofs.Common.{arith}
use Rattle.std.proofs.lemmas.Grind.{common_steps}
use Rattle.cb_forms.proofs.Order.{least_assoc}
use Rattle.cb_texts.proofs.controllers.controllers_fault.Goals as goal

pub loop-controller-preserved : goal.loop-controller-preserved
loop-controller-preserved c = grind (arith, common_steps, least_assoc)
