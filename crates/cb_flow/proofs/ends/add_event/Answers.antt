use Rattle.std.proofs.Common.{arith}
use Rattle.std.proofs.lemmas.Grind.{common_steps}
use Rattle.cb_flow.proofs.UserSteps.{no_event_uses, named_uses}
use Rattle.cb_flow.proofs.ends.add_event.Goals as goal

pub returns-in_default : goal.returns-in_default
returns-in_default c = grind (arith, common_steps, no_event_uses)

pub returns-in-Some : goal.returns-in-Some
returns-in-Some c = grind (arith, common_steps, named_uses)
