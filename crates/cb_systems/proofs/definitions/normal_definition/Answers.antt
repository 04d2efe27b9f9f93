use Rattle.cb_systems.proofs.Making.{made}
use Rattle.cb_systems.proofs.definitions.normal_definition.Goals as goal

pub returns-clause-form : goal.returns-clause-form
returns-clause-form c =
    let a = c.args.around.now in
    made a.known.now c.args.globals.now c.args.names.now a.machines.now a.channels.now a.own.now a.definitions.now c.args.definition.now
    a.view.now c.args.reading.now _ _ _ _ c.requires.names c.requires.outer c.requires.reading
    c.in_ok-name.ensures.name c.in_ok-name.ensures.parameters c.in_ok-invariant.ensures.invariant c.in_ok-invariant.ensures.body
