use Rattle.std.proofs.Common.{◌≡◌, ◌++◌, drop, map}
use Rattle.cb_types.specs.NormalMachines.{set_in}
use Rattle.cb_types.proofs.system.add_sets.Given as goal

abbrev pub invariant-loop-set : goal.invariant-loop-set
invariant-loop-set l = l.all.items ++ map set_in (drop l.set-index l.sets) ≡ l.fn.all.items ++ map set_in l.sets
