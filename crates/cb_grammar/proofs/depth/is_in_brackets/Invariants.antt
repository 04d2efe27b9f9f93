use Rattle.std.proofs.Common.{◌≡◌, ◌≤◌, length, reverse, take}
use Rattle.cb_grammar.specs.Depth.{in_brackets}
use Rattle.cb_grammar.proofs.depth.is_in_brackets.Given as goal

abbrev pub invariant-loop-left : goal.invariant-loop-left
invariant-loop-left l = (l.left ≤ length l.levels) × (in_brackets (reverse (take l.left l.levels)) ≡ in_brackets (reverse l.levels))

abbrev pub decreases-loop-left : goal.decreases-loop-left
decreases-loop-left l = l.left
