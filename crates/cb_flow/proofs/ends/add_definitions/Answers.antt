use Rattle.std.proofs.Common.{arith}
use Rattle.std.proofs.lemmas.Grind.{common_steps}
use Rattle.cb_flow.proofs.UserSteps.{definition_uses, no_definition_uses}
use Rattle.cb_flow.proofs.ends.add_definitions.Goals as goal

pub loop-definition-preserved : goal.loop-definition-preserved
loop-definition-preserved c = grind (arith, common_steps, definition_uses)

pub returns : goal.returns
returns c = grind (arith, common_steps, no_definition_uses)
