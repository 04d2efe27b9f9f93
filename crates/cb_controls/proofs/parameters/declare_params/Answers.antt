use Rattle.std.proofs.Common.{arith}
use Rattle.std.proofs.lemmas.Grind.{common_steps}
use Rattle.cb_forms.proofs.Order.{least_assoc}
use Rattle.cb_controls.proofs.Listed.{declared_step, fault_step}
use Rattle.cb_controls.proofs.parameters.declare_params.Goals as goal

pub loop-param-preserved : goal.loop-param-preserved
loop-param-preserved c =
    let names = declared_step c.args.domains.now c.loop-param.names c.args.params.now c.loop-param.param-index c.param-item.result c.loop-param-test.true c.param-item.is in
    let fault = fault_step c.args.domains.now c.loop-param.names c.args.params.now c.loop-param.param-index c.param-item.result c.loop-param-test.true c.param-item.is in
    grind (arith, common_steps, least_assoc, names, fault)
