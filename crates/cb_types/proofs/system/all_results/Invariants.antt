use Rattle.std.proofs.Common.{◌≡◌, ◌++◌, drop, map}
use Rattle.cb_types.specs.NormalMachines.{result_name}
use Rattle.cb_types.proofs.system.all_results.Given as goal

abbrev pub invariant-loop-name : goal.invariant-loop-name
invariant-loop-name l = l.all ++ map (result_name l.results) (drop l.name-index l.list) ≡ map (result_name l.results) l.list
