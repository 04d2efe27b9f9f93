use Rattle.std.proofs.Common.{◌≡◌, drop}
use Rattle.cb_conditions.specs.Conditions.{typings}
use Rattle.cb_conditions.specs.Ways.{supposing}
use Rattle.cb_symbolic.specs.Walks.{way_of, IsReached}
use Rattle.cb_owed.proofs.loops.suppose_domains.Given as goal

abbrev pub invariant-loop-one : goal.invariant-loop-one
invariant-loop-one l = record {
  way : supposing (way_of l.reached l.walk) (typings (drop l.one-index l.declared)) ≡ supposing (way_of l.initial.reached l.initial.walk) (typings l.declared);
  reached : IsReached l.reached l.walk;
}
