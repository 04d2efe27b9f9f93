use Rattle.std.proofs.Common.{◌≡◌, ◌++◌, drop, map}
use Rattle.cb_types.specs.NormalMachines.{constant_in}
use Rattle.cb_types.proofs.system.add_constants.Given as goal

abbrev pub invariant-loop-name : goal.invariant-loop-name
invariant-loop-name l = l.all ++ map (constant_in l.numbers) (drop l.name-index l.list) ≡ l.fn.all ++ map (constant_in l.numbers) l.list
