use Rattle.std.proofs.Common.{arith}
use Rattle.std.proofs.lemmas.Grind.{common_steps}
use Rattle.cb_forms.proofs.Order.{least_assoc}
use Rattle.cb_types.proofs.machine.judge_properties.Goals as goal

pub loop-property-preserved : goal.loop-property-preserved
loop-property-preserved c = grind (arith, common_steps, least_assoc)
