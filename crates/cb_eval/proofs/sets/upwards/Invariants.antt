use Rattle.std.proofs.Common.{◌≡◌}
use Rattle.cb_term.specs.Sets.{upwards}
use Rattle.cb_eval.proofs.sets.upwards.Given as goal

abbrev pub invariant-loop-i : goal.invariant-loop-i
invariant-loop-i l = l.items.items ≡ upwards l.first l.i
