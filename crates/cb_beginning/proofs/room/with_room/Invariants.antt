use Rattle.std.proofs.Common.{take, flat_map}
use Rattle.cb_beginning.specs.Room.{GivesPlaces, names_in}
use Rattle.cb_beginning.proofs.room.with_room.Given as goal

abbrev pub invariant-loop-machine : goal.invariant-loop-machine
invariant-loop-machine l = GivesPlaces (flat_map names_in (take l.machine-index l.machine-items)) l.fn.initial l.store
