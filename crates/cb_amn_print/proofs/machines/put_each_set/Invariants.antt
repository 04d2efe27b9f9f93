use Rattle.std.proofs.Common.{◌≡◌, ◌++◌, drop, true}
use Rattle.cb_amn_print.specs.Machines.{sets_text}
use Rattle.cb_amn_print.proofs.machines.put_each_set.Given as goal

abbrev pub invariant-loop-set : goal.invariant-loop-set
invariant-loop-set l = l.out.items ++ sets_text l.first (drop l.set-index l.sets) ≡ l.initial.out.items ++ sets_text true l.sets
