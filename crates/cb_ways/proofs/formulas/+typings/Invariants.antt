use Rattle.std.proofs.Common.{length}
use Rattle.cb_ways.proofs.formulas.+typings.Given as goal

abbrev pub decreases-typings : goal.decreases-typings
decreases-typings l = length l.inputs.now
