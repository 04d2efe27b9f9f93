use Rattle.std.proofs.Common.{take}
use Rattle.cb_spec.specs.Stores.{SameMap}
use Rattle.cb_spec.specs.Bound.{names, only}
use Rattle.cb_settling.proofs.call.written_to.Given as goal

abbrev pub invariant-loop-variable : goal.invariant-loop-variable
invariant-loop-variable l = SameMap l.own (only (names (take l.variable-index l.variable-items)) l.written)
