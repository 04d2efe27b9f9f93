use Rattle.std.proofs.Common.{◌≡◌, drop}
use Rattle.cb_forms.specs.Faults.{least, first}
use Rattle.cb_types.specs.Declares.{with_sets, sets_fault, after_sets}
use Rattle.cb_types.proofs.tables.declare_sets.Given as goal

abbrev pub invariant-loop-raw : goal.invariant-loop-raw
invariant-loop-raw l =
    (with_sets l.owner l.number l.names (drop l.raw-index l.sets) ≡ with_sets l.owner l.set l.fn.names l.sets)
    × (after_sets l.number (drop l.raw-index l.sets) ≡ after_sets l.set l.sets)
    × (least l.fault (first (sets_fault l.owner l.number l.names (drop l.raw-index l.sets))) ≡ first (sets_fault l.owner l.set l.fn.names l.sets))
