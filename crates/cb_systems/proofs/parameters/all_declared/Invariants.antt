use Rattle.std.proofs.Common.{◌≡◌, ◌++◌, drop, map}
use Rattle.cb_text_laws.specs.Signatures.{param_name}
use Rattle.cb_types.specs.NormalMachines.{declared_name}
use Rattle.cb_systems.proofs.parameters.all_declared.Given as goal

abbrev pub invariant-loop-param : goal.invariant-loop-param
invariant-loop-param l =
    l.all ++ map (declared_name l.domains) (map param_name (drop l.param-index l.params)) ≡ map (declared_name l.domains) (map param_name l.params)
