use Rattle.std.proofs.Common.{◌≡◌, drop}
use Rattle.cb_conditions.specs.Ways.{opening_each}
use Rattle.cb_symbolic.specs.Walks.{way_of, IsReached, Extends}
use Rattle.cb_symbolic.proofs.walk.open_declared.Given as goal

abbrev pub invariant-loop-one : goal.invariant-loop-one
invariant-loop-one l = record {
  way : opening_each (way_of l.reached l.walk) (drop l.one-index l.declared) ≡ opening_each (way_of l.initial.reached l.initial.walk) l.declared;
  extends : Extends l.walk l.initial.walk;
  reached : IsReached l.reached l.walk;
}
