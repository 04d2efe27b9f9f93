use Rattle.std.proofs.Common.{length}
use Rattle.cb_wp.proofs.machine.+for_all.Given as goal

abbrev pub decreases-for_all : goal.decreases-for_all
decreases-for_all l = length l.params.now
