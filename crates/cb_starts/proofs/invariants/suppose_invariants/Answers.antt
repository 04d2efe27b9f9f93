use Rattle.std.proofs.Common.{IfErr, subst}
use Rattle.cb_obligations.specs.Steps.{Reach}
use Rattle.cb_conditions.specs.Conditions.{listed, invariants_of}
use Rattle.cb_conditions.specs.Ways.{Way, supposing}
use Rattle.cb_symbolic.specs.Walks.{way_of, Stops}
use Rattle.cb_starts.proofs.invariants.suppose_invariants.Goals as goal

pub returns-clause-stops : goal.returns-clause-stops
returns-clause-stops c =
    let w : Way = way_of c.args.reached c.args.walk.now in
    subst (λ (v : Way). IfErr c.suppose_each.result (λ e. Stops e (Reach v.hypotheses)))
    (λ i. supposing w (invariants_of (listed (c.as_slice.ensures i) (c.as_slice-2.ensures i)))) c.suppose_each.ensures.stops
