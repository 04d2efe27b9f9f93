use Rattle.std.proofs.Common.{◌≡◌, ◌≤◌, ◌+◌, reverse, drop, map}
use Rattle.cb_grammar.specs.Marks.{mark_of}
use Rattle.cb_grammar.specs.Depth.{IsSound, state, first_deep, start}
use Rattle.cb_grammar.proofs.depth.deep.Given as goal

abbrev pub invariant-loop-i : goal.invariant-loop-i
invariant-loop-i l =
    IsSound l.counts (reverse l.levels.items) × (l.base + l.counts.depth ≤ 200) × (l.counts.nodes ≤ l.i) × (first_deep l.base (state l.counts (reverse l.levels.items)) l.i (map mark_of (drop l.i l.tokens)) ≡ first_deep l.base start 0 (map mark_of l.tokens))
