use Rattle.std.proofs.Common.{◌≡◌, ◌++◌, ◌+◌, ◌*◌, drop, map, flat_map, length}
use Rattle.std.specs.Vec.Iter.{into_iter_items, into_iter_len}
use Rattle.cb_spec.specs.SubstTree.{sides_of}
use Rattle.cb_spec.specs.SubstSize.{subst_nodes, substs_nodes}
use Rattle.cb_obligations.specs.Branches as spec
use Rattle.cb_wp.specs.Parts.{begun_of, after}
use Rattle.cb_wp.proofs.branches.+branches.Given as goal

abbrev pub invariant-add_each-loop-first : goal.invariant-add_each-loop-first
invariant-add_each-loop-first l =
    let each = after (λ k. spec.branches_from k l.scope l.subst) in
    record {
      list : map begun_of l.into.items ++ flat_map each (map begun_of (into_iter_items l.first-iterator))
          ≡ map begun_of l.initial.into.items ++ flat_map each (map begun_of (into_iter_items l.initial.first-iterator));
      long : into_iter_len l.first-iterator ≡ length (into_iter_items l.first-iterator);
    }

abbrev pub invariant-add_sides-loop-side : goal.invariant-add_sides-loop-side
invariant-add_sides-loop-side l =
    map begun_of l.into.items ++ after (λ k. spec.branches_of_each k l.scope (sides_of (drop l.side-index l.sides))) (begun_of l.begun)
    ≡ map begun_of l.initial.into.items ++ after (λ k. spec.branches_of_each k l.scope (sides_of l.sides)) (begun_of l.begun)

abbrev pub decreases-add_branches : goal.decreases-add_branches
decreases-add_branches l = 3 * subst_nodes l.subst.now

abbrev pub decreases-add_together : goal.decreases-add_together
decreases-add_together l = 3 * (subst_nodes l.a.now + subst_nodes l.b.now) + 2

abbrev pub decreases-add_each : goal.decreases-add_each
decreases-add_each l = 3 * subst_nodes l.subst.now + 1

abbrev pub decreases-add_sides : goal.decreases-add_sides
decreases-add_sides l = 3 * substs_nodes (sides_of l.sides.now) + 1

abbrev pub decreases-add_if : goal.decreases-add_if
decreases-add_if l = 3 * (subst_nodes l.side.now + subst_nodes l.other.now) + 1

abbrev pub decreases-add_any : goal.decreases-add_any
decreases-add_any l = 3 * subst_nodes l.body.now + 1
