use Rattle.std.proofs.Common.{IfErr, option_copied, sym, ap, subst}
use Rattle.cb_obligations.specs.Steps.{Reach}
use Rattle.cb_symbolic.specs.Walks.{way_of, Stops}
use Rattle.cb_starts.specs.Starts.{own_supposed}
use Rattle.cb_starts.proofs.invariants.suppose_own.Goals as goal

pub returns-in-Some-clause-stops : goal.returns-in-Some-clause-stops
returns-in-Some-clause-stops c =
    subst (λ o. IfErr c.suppose.result (λ e. Stops e (Reach (own_supposed (way_of c.args.reached c.args.walk.now) o).hypotheses)))
    (sym (ap option_copied c.in-Some.is)) c.suppose.ensures.stops
