use Rattle.std.proofs.Common.{◌≡◌, drop}
use Rattle.cb_conditions.specs.Conditions.{declared_as}
use Rattle.cb_conditions.specs.Ways.{opening_each}
use Rattle.cb_symbolic.specs.Walks.{way_of, IsReached, Extends}
use Rattle.cb_symbolic.proofs.walk.open_each.Given as goal

abbrev pub invariant-loop-place : goal.invariant-loop-place
invariant-loop-place l = record {
  way : opening_each (way_of l.reached l.walk) (declared_as (drop l.place l.names) (drop l.place l.values))
      ≡ opening_each (way_of l.initial.reached l.initial.walk) (declared_as l.names l.values);
  extends : Extends l.walk l.initial.walk;
  reached : IsReached l.reached l.walk;
}
