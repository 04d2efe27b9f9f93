use Rattle.std.proofs.Common.{◌≡◌, ◌++◌, drop, map}
use Rattle.cb_types.specs.NormalMachines.{written_name}
use Rattle.cb_systems.proofs.parts.written_names.Given as goal

abbrev pub invariant-loop-name : goal.invariant-loop-name
invariant-loop-name l = l.all ++ map written_name (drop l.name-index l.list) ≡ map written_name l.list
