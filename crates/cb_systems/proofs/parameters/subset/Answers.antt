use Rattle.std.proofs.Common.{arith}
use Rattle.cb_controls.proofs.Listed.{sets_range}
use Rattle.cb_systems.proofs.parameters.subset.Goals as goal

pub returns-in-Range : goal.returns-in-Range
returns-in-Range c = grind (arith, sets_range)
