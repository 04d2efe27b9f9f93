use Rattle.std.proofs.Common.{take}
use Rattle.cb_term.specs.Table.{sizes_of}
use Rattle.cb_spec.specs.Stores.{look_of}
use Rattle.cb_spec.specs.Settling.{AreValues}
use Rattle.cb_settling.proofs.bind.values_of.Given as goal

abbrev pub invariant-loop-term : goal.invariant-loop-term
invariant-loop-term l = AreValues (sizes_of l.sets) (look_of l.env) (take l.term-index l.term-items) l.values
