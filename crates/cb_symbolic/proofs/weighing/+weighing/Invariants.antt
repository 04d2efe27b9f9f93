use Rattle.std.proofs.Common.{◌≡◌, ◌+◌, ◌-◌, ◌^◌, min, drop}
use Rattle.cb_term.specs.Tree.{trees_of}
use Rattle.cb_conditions.specs.Steps.{terms_nodes_with}
use Rattle.cb_symbolic.specs.Stores.{nodes_of}
use Rattle.cb_symbolic.proofs.weighing.+weighing.Given as goal

abbrev pub invariant-term_nodes-loop-term : goal.invariant-term_nodes-loop-term
invariant-term_nodes-loop-term l =
    min (l.sum + terms_nodes_with (nodes_of l.entries) (trees_of (drop l.term-index l.term-items))) (2 ^ 64 - 1)
    ≡ min (terms_nodes_with (nodes_of l.entries) (trees_of l.term-items)) (2 ^ 64 - 1)
