use Rattle.std.proofs.Common.{arith}
use Rattle.std.proofs.lemmas.Grind.{common_steps}
use Rattle.cb_forms.proofs.Order.{least_assoc}
use Rattle.cb_processes.proofs.bound.declare_bound.Goals as goal

pub loop-i-preserved : goal.loop-i-preserved
loop-i-preserved c = grind (arith, common_steps, least_assoc)
