use Rattle.std.proofs.Common.{◌≡◌, ◌+◌, ◌-◌, ◌^◌, min, drop}
use Rattle.cb_term.specs.Tree.{trees_of}
use Rattle.cb_term.specs.Size.{terms_nodes}
use Rattle.cb_term.proofs.count.+nodes.Given as goal

abbrev pub invariant-term_nodes-loop-term : goal.invariant-term_nodes-loop-term
invariant-term_nodes-loop-term l =
    min (l.sum + terms_nodes (trees_of (drop l.term-index l.term-items))) (2 ^ 64 - 1)
    ≡ min (terms_nodes (trees_of l.term-items)) (2 ^ 64 - 1)
