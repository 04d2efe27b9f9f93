use Rattle.std.proofs.Common.{get_or, ap, subst, rules, arith, ◌∙◌}
use Rattle.std.proofs.lemmas.Grind.{common_steps}
use Rattle.std.proofs.lemmas.List.{drop_more}
use Rattle.cb_obligations.specs.Steps.{Reach}
use Rattle.cb_conditions.specs.Conditions.{listed, invariants_of}
use Rattle.cb_conditions.specs.Ways.{Way, supposing}
use Rattle.cb_symbolic.specs.Walks.{way_of, Stops}
use Rattle.cb_starts.specs.Starts.{own_supposed}
use Rattle.cb_starts.proofs.Supposed.{own_step, own_stops}
use Rattle.cb_starts.proofs.invariants.suppose_each.Goals as goal

pub loop-place-preserved : goal.loop-place-preserved
loop-place-preserved c = record {
  way = own_step c.args.machines.now _ _ (get_or c.args.places.now c.loop-place.place-index 0) (way_of c.loop-place.reached c.loop-place.walk) _ _
      (drop_more c.args.places.now c.loop-place.place-index 0 c.loop-place-test.true)
      (c.in_ok-reached.ensures.way ∙ ap (own_supposed (way_of c.loop-place.reached c.loop-place.walk)) c.at.ensures)
      c.loop-place.invariant.way;
  reached = c.in_ok-reached.ensures.reached;
}

pub returns-in_err-reached-clause-stops : goal.returns-in_err-reached-clause-stops
returns-in_err-reached-clause-stops c =
    let w : Way = way_of c.loop-place.reached c.loop-place.walk in
    let all : Way = supposing (way_of c.args.reached c.args.walk.now) (invariants_of (listed c.args.machines.now c.args.places.now)) in
    let whole : Stops c.in_err-reached.field-0.0 (Reach all.hypotheses) =
    own_stops c.args.machines.now _ _ (get_or c.args.places.now c.loop-place.place-index 0) w all c.in_err-reached.field-0.0
    (drop_more c.args.places.now c.loop-place.place-index 0 c.loop-place-test.true) c.loop-place.invariant.way
    (subst (λ o. Stops c.in_err-reached.field-0.0 (Reach (own_supposed w o).hypotheses)) c.at.ensures c.in_err-reached.ensures.stops) in
    first_of (search (rules, whole), grind (arith, common_steps, whole))
