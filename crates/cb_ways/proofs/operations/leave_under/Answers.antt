use Rattle.std.proofs.Common.{ap, subst, take, ◌∙◌}
use Rattle.std.proofs.lemmas.Result.{err_from_is_err_and}
use Rattle.cb_obligations.specs.Steps.{Reach}
use Rattle.cb_conditions.specs.Ways.{Way, supposing, leaving}
use Rattle.cb_symbolic.specs.Stores.{meaning_of}
use Rattle.cb_symbolic.specs.Walks.{way_of, Passes, Stops}
use Rattle.cb_ways.proofs.operations.leave_under.Goals as goal

pub returns-in_err-reached-clause-stops : goal.returns-in_err-reached-clause-stops
returns-in_err-reached-clause-stops c =
    let left : Way = leaving (meaning_of (take c.args.outer c.args.walk.now.store)) c.args.writes.now (way_of c.args.reached c.args.walk.now) in
    let whole : Stops c.in_err-reached.field-0.0 (Reach (supposing left c.args.formula.now).hypotheses) =
    subst (λ (w : Way). Stops c.in_err-reached.field-0.0 (Reach (supposing w c.args.formula.now).hypotheses))
    (c.in_ok-inner.ensures.way c.args.reached) c.in_err-reached.ensures.stops in
    let made = err_from_is_err_and c.from_residual-in_err-reached.result c.from_residual-in_err-reached.ensures.1 in
    rw (made.1, made.2) whole

pub returns-clause-way : goal.returns-clause-way
returns-clause-way c =
    c.in_ok-reached.ensures.way ∙ ap (λ (w : Way). supposing w c.args.formula.now) (c.in_ok-inner.ensures.way c.args.reached)

pub returns-clause-passes : goal.returns-clause-passes
returns-clause-passes c =
    subst (λ (w : Way). Passes (Reach (supposing w c.args.formula.now).hypotheses)) (c.in_ok-inner.ensures.way c.args.reached) c.in_ok-reached.ensures.passes
