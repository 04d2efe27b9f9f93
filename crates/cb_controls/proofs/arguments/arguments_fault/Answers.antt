use Rattle.std.proofs.Common.{arith}
use Rattle.std.proofs.lemmas.Grind.{common_steps}
use Rattle.cb_forms.proofs.Order.{least_assoc}
use Rattle.cb_controls.proofs.Steps.{arguments_step}
use Rattle.cb_controls.proofs.arguments.arguments_fault.Goals as goal

pub loop-i-preserved : goal.loop-i-preserved
loop-i-preserved c =
    let step = arguments_step c.args.view.now c.args.names.now c.args.forms.now c.args.arguments.now c.loop-i.i c.index-arguments-i.result c.loop-i-test.true c.index-arguments-i.is in
    grind (arith, common_steps, least_assoc, step)
