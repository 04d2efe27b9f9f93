use Rattle.cb_beginning.specs.Room.{names_in}
use Rattle.cb_beginning.proofs.RoomLemmas.{places_more}
use Rattle.cb_beginning.proofs.room.with_room.Goals as goal

pub loop-machine-preserved : goal.loop-machine-preserved
loop-machine-preserved c =
    places_more names_in c.as_slice-machine-items.result.now c.loop-machine.machine-index c.machine-item.result c.args.initial.now c.loop-machine.store c.add_machine.new.store c.loop-machine-test.true c.machine-item.is
    c.loop-machine.invariant c.in_ok-add_machine.ensures
