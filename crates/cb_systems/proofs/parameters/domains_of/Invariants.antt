use Rattle.std.proofs.Common.{◌≡◌, [], drop}
use Rattle.cb_text_laws.specs.Signatures.{parameters_from}
use Rattle.cb_systems.proofs.parameters.domains_of.Given as goal

abbrev pub invariant-loop-param : goal.invariant-loop-param
invariant-loop-param l = parameters_from l.view l.names l.domains (drop l.param-index l.params) ≡ parameters_from l.view l.names [] l.params
