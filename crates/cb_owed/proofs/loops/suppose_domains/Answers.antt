use Rattle.std.proofs.Common.{rules, arith}
use Rattle.std.proofs.lemmas.Grind.{common_steps}
use Rattle.cb_term.proofs.Steps.{drop_step}
use Rattle.cb_obligations.specs.Steps.{Reach}
use Rattle.cb_conditions.specs.Conditions.{typings}
use Rattle.cb_conditions.specs.Ways.{Way, supposing}
use Rattle.cb_symbolic.specs.Walks.{way_of, Stops}
use Rattle.cb_owed.proofs.Walked.{typed_step, typed_stops}
use Rattle.cb_owed.proofs.loops.suppose_domains.Goals as goal

pub loop-one-preserved : goal.loop-one-preserved
loop-one-preserved c = record {
  way = typed_step c.one-item.result _ _ (way_of c.loop-one.reached c.loop-one.walk) _ _
      (drop_step _ _ c.one-item.result c.loop-one-test.true c.one-item.is) c.in_ok-reached.ensures.way c.loop-one.invariant.way;
  reached = c.in_ok-reached.ensures.reached;
}

pub returns-in_err-reached-clause-stops : goal.returns-in_err-reached-clause-stops
returns-in_err-reached-clause-stops c =
    let all : Way = supposing (way_of c.args.reached c.args.walk.now) (typings c.args.declared.now) in
    let whole : Stops c.in_err-reached.field-0.0 (Reach all.hypotheses) =
    typed_stops c.one-item.result _ _ (way_of c.loop-one.reached c.loop-one.walk) all c.in_err-reached.field-0.0
    (drop_step _ _ c.one-item.result c.loop-one-test.true c.one-item.is) c.loop-one.invariant.way c.in_err-reached.ensures.stops in
    first_of (search (rules, whole), grind (arith, common_steps, whole))
