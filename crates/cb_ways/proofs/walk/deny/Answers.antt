use Rattle.std.proofs.Common.{◌≡◌, IfErr, ap, subst, ◌∙◌}
use Rattle.cb_term.specs.Tree as tree
use Rattle.cb_term.specs.Tree.{FormulaTree}
use Rattle.cb_obligations.specs.Steps.{Reach}
use Rattle.cb_conditions.specs.Ways.{supposing}
use Rattle.cb_symbolic.specs.Walks.{way_of, Stops}
use Rattle.cb_ways.proofs.walk.deny.Goals as goal

pub returns-clause-stops : goal.returns-clause-stops
returns-clause-stops c =
    let fails : c.in_ok-fails.fails ≡ tree.Not c.args.test.now = c.in_ok-fails.ensures ∙ ap tree.Not c.in_ok-copy.ensures in
    subst (λ (f : FormulaTree). IfErr c.suppose.result (λ e. Stops e (Reach (supposing (way_of c.args.reached c.args.walk.now) f).hypotheses)))
    fails c.suppose.ensures.stops
