use Rattle.cb_shapes.proofs.Machines.{machines_full}
use Rattle.cb_shapes.proofs.laws.machines_are_full.Goals as goal

pub returns : goal.returns
returns c = machines_full
