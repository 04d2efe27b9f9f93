use Rattle.std.proofs.Common.{rules, arith, ap, map}
use Rattle.std.proofs.lemmas.Grind.{common_steps}
use Rattle.cb_term.proofs.Steps.{drop_step}
use Rattle.cb_wp.specs.Limits.{Faulted}
use Rattle.cb_wp.specs.Parts.{item_of}
use Rattle.cb_conditions.specs.Steps.{inside_steps}
use Rattle.cb_conditions.specs.Ways.{Way}
use Rattle.cb_symbolic.specs.Walks.{way_of}
use Rattle.cb_ways.proofs.WalkLemmas.{entering_stops}
use Rattle.cb_ways.proofs.branches.enter.Goals as goal

pub returns-in_err-reached-clause-fault : goal.returns-in_err-reached-clause-fault
returns-in_err-reached-clause-fault c =
    let w : Way = way_of c.loop-item.reached c.loop-item.walk in
    let first : Way = way_of c.args.reached c.args.walk.now in
    let is = ap (map item_of) (drop_step _ _ c.item-item.result c.loop-item-test.true c.item-item.is) in
    let whole : Faulted c.in_err-reached.field-0.0 c.args._used.now (inside_steps first (map item_of c.args.items.now)) =
    entering_stops w first (item_of c.item-item.result) _ _ (map item_of c.args.items.now) c.in_err-reached.field-0.0 c.args._used.now is c.loop-item.invariant.counted c.in_err-reached.ensures.stops in
    first_of (search (rules, whole), grind (arith, common_steps, whole))
