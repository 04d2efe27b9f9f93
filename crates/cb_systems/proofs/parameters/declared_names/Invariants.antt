use Rattle.std.proofs.Common.{◌≡◌, ◌++◌, drop, map}
use Rattle.cb_types.specs.NormalMachines.{declared_name}
use Rattle.cb_systems.proofs.parameters.declared_names.Given as goal

abbrev pub invariant-loop-name : goal.invariant-loop-name
invariant-loop-name l = l.all ++ map (declared_name l.domains) (drop l.name-index l.list) ≡ map (declared_name l.domains) l.list
