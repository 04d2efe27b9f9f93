use Rattle.std.proofs.Common.{IfErr, subst}
use Rattle.cb_term.specs.Tree.{FormulaTree}
use Rattle.cb_obligations.specs.Steps.{Reach}
use Rattle.cb_conditions.specs.Ways.{supposing}
use Rattle.cb_symbolic.specs.Walks.{way_of, Stops}
use Rattle.cb_starts.proofs.invariants.suppose_nothing.Goals as goal

pub returns-clause-stops : goal.returns-clause-stops
returns-clause-stops c =
    subst (λ (f : FormulaTree). IfErr c.suppose.result (λ e. Stops e (Reach (supposing (way_of c.args.reached c.args.walk.now) f).hypotheses)))
    c.btrue-nothing.ensures c.suppose.ensures.stops
