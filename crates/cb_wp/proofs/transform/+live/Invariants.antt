use Rattle.std.proofs.Common.{◌≡◌, ◌++◌, ◌+◌, ◌*◌, drop, map}
use Rattle.cb_spec.specs.SubstTree.{sides_of}
use Rattle.cb_spec.specs.SubstSize.{subst_nodes, substs_nodes}
use Rattle.cb_obligations.specs.Transform.{live_under}
use Rattle.cb_wp.proofs.transform.+live.Given as goal

abbrev pub invariant-live_choice-loop-side : goal.invariant-live_choice-loop-side
invariant-live_choice-loop-side l = l.lives ++ map (live_under l.bound) (drop l.side-index l.sides) ≡ map (live_under l.bound) l.sides

abbrev pub decreases-live_under : goal.decreases-live_under
decreases-live_under l = 4 * subst_nodes l.subst.now

abbrev pub decreases-live_together : goal.decreases-live_together
decreases-live_together l = 4 * (subst_nodes l.a.now + subst_nodes l.b.now) + 1

abbrev pub decreases-live_choice : goal.decreases-live_choice
decreases-live_choice l = 4 * substs_nodes (sides_of l.sides.now) + 1

abbrev pub decreases-live_if : goal.decreases-live_if
decreases-live_if l = 4 * (subst_nodes l.side.now + subst_nodes l.other.now) + 2

abbrev pub decreases-live_then : goal.decreases-live_then
decreases-live_then l = 4 * subst_nodes l.side.now + 1

abbrev pub decreases-live_else : goal.decreases-live_else
decreases-live_else l = 4 * subst_nodes l.other.now + 1

abbrev pub decreases-live_any : goal.decreases-live_any
decreases-live_any l = 4 * subst_nodes l.body.now + 3

abbrev pub decreases-live_inside : goal.decreases-live_inside
decreases-live_inside l = 4 * subst_nodes l.body.now + 2

abbrev pub decreases-live_each : goal.decreases-live_each
decreases-live_each l = 4 * subst_nodes l.body.now + 1
