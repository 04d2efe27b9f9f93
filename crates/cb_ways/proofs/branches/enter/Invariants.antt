use Rattle.std.proofs.Common.{◌≡◌, List, drop, map}
use Rattle.cb_obligations.specs.Branches as spec
use Rattle.cb_wp.specs.Limits.{count}
use Rattle.cb_wp.specs.Parts.{item_of}
use Rattle.cb_conditions.specs.Steps.{inside_steps}
use Rattle.cb_conditions.specs.Ways.{Way, inside}
use Rattle.cb_symbolic.specs.Walks.{way_of, IsReached, Extends}
use Rattle.cb_ways.proofs.branches.enter.Given as goal

abbrev pub invariant-loop-item : goal.invariant-loop-item
invariant-loop-item l =
    let w : Way = way_of l.reached l.walk in
    let first : Way = way_of l.initial.reached l.initial.walk in
    let left : List spec.Item = map item_of (drop l.item-index l.items) in
    record {
      way : inside w left ≡ inside first (map item_of l.items);
      extends : Extends l.walk l.initial.walk;
      reached : IsReached l.reached l.walk;
      counted : count l._used.obligations l._used.nodes (inside_steps w left) ≡ count l._used.obligations l._used.nodes (inside_steps first (map item_of l.items));
    }
