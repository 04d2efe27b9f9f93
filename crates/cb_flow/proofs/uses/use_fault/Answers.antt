use Rattle.std.proofs.Common.{arith}
use Rattle.std.proofs.lemmas.Grind.{common_steps}
use Rattle.cb_forms.proofs.Order.{least_assoc}
use Rattle.cb_flow.proofs.uses.use_fault.Goals as goal

pub returns-clause-firm : goal.returns-clause-firm
returns-clause-firm c = grind (arith, common_steps, least_assoc)
