use Rattle.std.proofs.Common.{take}
use Rattle.cb_spec.specs.Bound.{names}
use Rattle.cb_beginning.specs.Room.{GivesPlaces}
use Rattle.cb_beginning.proofs.room.add_names.Given as goal

abbrev pub invariant-loop-one : goal.invariant-loop-one
invariant-loop-one l = GivesPlaces (names (take l.one-index l.one-items)) l.fn.store l.store
