use Rattle.std.proofs.Common.{arith}
use Rattle.std.proofs.lemmas.Grind.{common_steps}
use Rattle.cb_flow.proofs.UserSteps.{no_number_uses, far_number_uses, one_number_uses}
use Rattle.cb_flow.proofs.ends.add_use.Goals as goal

pub returns-then-k-len : goal.returns-then-k-len
returns-then-k-len c = grind (arith, common_steps, one_number_uses)

pub returns-else-k-len : goal.returns-else-k-len
returns-else-k-len c = grind (arith, common_steps, far_number_uses)

pub returns-in_default : goal.returns-in_default
returns-in_default c = grind (arith, common_steps, no_number_uses)
