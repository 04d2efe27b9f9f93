use Rattle.std.proofs.Common.{◌+◌, ◌-◌, ◌*◌, reverse, length}
use Rattle.cb_engine.specs.Tables.{rules_of}
use Rattle.cb_engine.specs.Readings.{weigh, weight_in}
use Rattle.cb_engine.proofs.Turns.{Reads}
use Rattle.cb_engine.proofs.read.Given as goal

abbrev pub invariant-loop-out : goal.invariant-loop-out
invariant-loop-out l = Reads (rules_of l.grammar) l.tokens l.start l.at l.out.items (reverse l.stack.items)

abbrev pub decreases-loop-out : goal.decreases-loop-out
decreases-loop-out l = 1000 * (length l.tokens - l.at) + weigh (weight_in l.weights) (reverse l.stack.items)
