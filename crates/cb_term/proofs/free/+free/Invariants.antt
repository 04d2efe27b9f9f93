use Rattle.std.proofs.Common.{◌≡◌, drop}
use Rattle.cb_term.specs.Tree.{trees_of}
use Rattle.cb_term.specs.Free.{free_in_terms}
use Rattle.cb_term.proofs.free.+free.Given as goal

abbrev pub invariant-free_in_term-loop-term : goal.invariant-free_in_term-loop-term
invariant-free_in_term-loop-term l =
    free_in_terms l.name (trees_of (drop l.term-index l.term-items)) ≡ free_in_terms l.name (trees_of l.term-items)
