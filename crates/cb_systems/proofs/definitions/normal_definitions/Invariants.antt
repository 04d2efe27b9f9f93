use Rattle.std.proofs.Common.{◌≡◌, ◌++◌, drop, map}
use Rattle.cb_text_laws.specs.NormalTexts.{definition_in}
use Rattle.cb_systems.proofs.definitions.normal_definitions.Given as goal

abbrev pub invariant-loop-definition : goal.invariant-loop-definition
invariant-loop-definition l =
    let f = definition_in l.around.known.now l.fn.names l.around.machines.now l.around.channels.now l.around.own.now l.around.definitions.now in
    (l.all ++ map f (drop l.definition-index l.definitions) ≡ map f l.definitions)
    × (l.globals ≡ l.fn.globals)
    × (l.names ≡ l.fn.names)
