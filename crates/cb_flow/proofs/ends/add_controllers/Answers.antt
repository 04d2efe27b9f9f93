use Rattle.std.proofs.Common.{arith}
use Rattle.std.proofs.lemmas.Grind.{common_steps}
use Rattle.cb_flow.proofs.UserSteps.{controller_uses, no_controller_uses}
use Rattle.cb_flow.proofs.ends.add_controllers.Goals as goal

pub loop-controller-preserved : goal.loop-controller-preserved
loop-controller-preserved c = grind (arith, common_steps, controller_uses)

pub returns : goal.returns
returns c = grind (arith, common_steps, no_controller_uses)
