use Rattle.std.proofs.Common.{◌≡◌, ◌++◌, drop, map}
use Rattle.cb_text_laws.specs.NormalTexts.{controller_in}
use Rattle.cb_systems.proofs.controllers.normal_controllers.Given as goal

abbrev pub invariant-loop-controller : goal.invariant-loop-controller
invariant-loop-controller l =
    let f = controller_in l.outside.known.now l.fn.names l.outside.machines.now l.outside.channels.now in
    (l.all ++ map f (drop l.controller-index l.controllers) ≡ map f l.controllers)
    × (l.globals ≡ l.fn.globals)
    × (l.names ≡ l.fn.names)
