use Rattle.std.proofs.Common.{◌≡◌, ◌≤◌, ◌+◌, length, reverse}
use Rattle.cb_grammar.specs.Depth.{signs_on, closed, without_elsifs}
use Rattle.cb_grammar.proofs.depth.close_block.Given as goal

abbrev pub invariant-loop-level : goal.invariant-loop-level
invariant-loop-level l = (l.depth ≡ signs_on (reverse l.levels.items) + l.counts.outer) × (l.depth ≤ l.counts.depth) × (closed (without_elsifs (reverse l.levels.items)) ≡ closed (without_elsifs (reverse l.fn.levels.items)))

abbrev pub decreases-loop-level : goal.decreases-loop-level
decreases-loop-level l = length l.levels.items
