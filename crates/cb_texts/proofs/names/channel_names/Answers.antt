use Rattle.std.proofs.Common.{arith}
use Rattle.std.proofs.lemmas.Grind.{common_steps}
use Rattle.cb_forms.proofs.Order.{least_assoc}
use Rattle.cb_texts.proofs.names.channel_names.Goals as goal

pub loop-channel-preserved : goal.loop-channel-preserved
loop-channel-preserved c = grind (arith, common_steps, least_assoc)
