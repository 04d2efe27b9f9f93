use Rattle.std.proofs.Common.{arith}
use Rattle.std.proofs.lemmas.Grind.{common_steps}
use Rattle.cb_forms.proofs.Order.{least_assoc}
use Rattle.cb_texts.proofs.controllers.definitions_fault.Goals as goal

pub loop-definition-preserved : goal.loop-definition-preserved
loop-definition-preserved c = grind (arith, common_steps, least_assoc)
