use Rattle.std.proofs.Common.{◌∙◌, ap}
use Rattle.cb_judge.specs.Meanings.{Names}
use Rattle.cb_text_laws.specs.NormalTexts.{definition_in}
use Rattle.cb_systems.proofs.Making.{pushed}
use Rattle.cb_systems.proofs.definitions.normal_definitions.Goals as goal

pub loop-definition-preserved : goal.loop-definition-preserved
loop-definition-preserved c =
    let a = c.args.around.now in
    let at = λ (n : Names). definition_in a.known.now n a.machines.now a.channels.now a.own.now a.definitions.now in
    let held = c.loop-definition.invariant in
    let given = c.in_ok-normal_definition.ensures in
    let form = given.form ∙ ap (λ (n : Names). at n c.definition-item.result) held.2 in
    let list = pushed (at c.args.names.now) c.args.definitions.now c.loop-definition.definition-index c.definition-item.result c.loop-definition.all c.push.new.self _
    c.loop-definition-test.true c.definition-item.is c.in_ok-push.ensures.ok form held.0 in
    (list, given.globals ∙ held.1, given.names ∙ held.2)
