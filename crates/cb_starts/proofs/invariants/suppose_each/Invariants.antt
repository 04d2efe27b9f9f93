use Rattle.std.proofs.Common.{◌≡◌, drop}
use Rattle.cb_conditions.specs.Conditions.{listed, invariants_of}
use Rattle.cb_conditions.specs.Ways.{supposing}
use Rattle.cb_symbolic.specs.Walks.{way_of, IsReached}
use Rattle.cb_starts.proofs.invariants.suppose_each.Given as goal

abbrev pub invariant-loop-place : goal.invariant-loop-place
invariant-loop-place l = record {
  way : supposing (way_of l.reached l.walk) (invariants_of (listed l.machines (drop l.place-index l.places)))
      ≡ supposing (way_of l.initial.reached l.initial.walk) (invariants_of (listed l.machines l.places));
  reached : IsReached l.reached l.walk;
}
