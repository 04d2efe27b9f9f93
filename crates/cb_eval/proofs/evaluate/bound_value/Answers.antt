use Rattle.std.proofs.Common.{◌≡◌, IfOk, subst, ap, arith}
use Rattle.std.proofs.lemmas.Grind.{common_steps}
use Rattle.cb_eval.specs.ClosedTruth.{with_one}
use Rattle.cb_eval.specs.Evaluation.{given}
use Rattle.cb_eval.proofs.EvaluateLemmas.{bound_here, bound_past}
use Rattle.cb_eval.proofs.evaluate.bound_value.Goals as goal

pub returns-in-Some : goal.returns-in-Some
returns-in-Some c =
    subst (λ o. IfOk c.widened.result (λ w. w ≡ with_one o given)) (bound_here c.args.bound.now c.args.index c.in-Some.value.now (grind (arith, common_steps)) (grind (arith, common_steps))) c.widened.ensures

pub returns-in-None : goal.returns-in-None
returns-in-None c = ap (λ o. with_one o given) (bound_past c.args.bound.now c.args.index (grind (arith, common_steps)))
