use Rattle.std.proofs.Common.{◌+◌, ◌*◌, length}
use Rattle.cb_starts.proofs.machines.+beginnings.Given as goal

abbrev pub decreases-beginnings_at : goal.decreases-beginnings_at
decreases-beginnings_at l = 3 * length l.places.now

abbrev pub decreases-boxed_beginnings : goal.decreases-boxed_beginnings
decreases-boxed_beginnings l = 3 * length l.places.now + 1

abbrev pub decreases-with_init : goal.decreases-with_init
decreases-with_init l = 3 * length l.left.now + 2
