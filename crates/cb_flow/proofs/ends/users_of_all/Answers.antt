use Rattle.std.proofs.Common.{arith}
use Rattle.std.proofs.lemmas.Grind.{common_steps}
use Rattle.cb_flow.proofs.UserSteps.{whole_uses}
use Rattle.cb_flow.proofs.ends.users_of_all.Goals as goal

pub returns : goal.returns
returns c = grind (arith, common_steps, whole_uses)
