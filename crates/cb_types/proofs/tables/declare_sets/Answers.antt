use Rattle.std.proofs.Common.{arith}
use Rattle.std.proofs.lemmas.Grind.{common_steps}
use Rattle.cb_forms.proofs.Order.{least_assoc}
use Rattle.cb_types.proofs.tables.declare_sets.Goals as goal

pub loop-raw-preserved : goal.loop-raw-preserved
loop-raw-preserved c = grind (arith, common_steps, least_assoc)
