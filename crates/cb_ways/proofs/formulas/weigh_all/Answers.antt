use Rattle.std.proofs.Common.{rules}
use Rattle.std.proofs.lemmas.Grind.{common_steps}
use Rattle.std.proofs.Common.{arith}
use Rattle.cb_term.proofs.Steps.{drop_step}
use Rattle.cb_wp.specs.Limits.{Faulted}
use Rattle.cb_conditions.specs.Steps.{weigh_each}
use Rattle.cb_symbolic.specs.Stores.{meaning_of}
use Rattle.cb_ways.proofs.WalkLemmas.{weighing_stops}
use Rattle.cb_ways.proofs.formulas.weigh_all.Goals as goal

pub returns-in_err-weigh-clause-fault : goal.returns-in_err-weigh-clause-fault
returns-in_err-weigh-clause-fault c =
    let s = meaning_of c.args.walk.now.store in
    let is = drop_step _ _ c.write-item.result c.loop-write-test.true c.write-item.is in
    let whole : Faulted c.in_err-weigh.field-0.0 c.args.used.now (weigh_each s c.args.writes.now) =
    weighing_stops s c.write-item.result _ _ _ c.in_err-weigh.field-0.0 c.args.used.now is c.loop-write.invariant c.in_err-weigh.ensures.stops in
    first_of (search (rules, whole), grind (arith, common_steps, whole))
