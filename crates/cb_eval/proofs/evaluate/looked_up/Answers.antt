use Rattle.std.proofs.Common.{◌≡◌, IfOk, Some, None, ap, subst, ◌∙◌}
use Rattle.cb_spec.proofs.StoreLemmas.{found_is_look}
use Rattle.cb_eval.specs.Evaluation.{given}
use Rattle.cb_eval.proofs.evaluate.looked_up.Goals as goal

pub returns-in-Some : goal.returns-in-Some
returns-in-Some c =
    subst (λ w. IfOk c.widened.result (λ o. o ≡ given w)) (found_is_look c.args.store.now c.args.name.now (Some c.in-Some.value.now) c.in-Some.ensures) c.widened.ensures

pub returns-in-None : goal.returns-in-None
returns-in-None c = ap Some c.int.ensures ∙ ap given (found_is_look c.args.store.now c.args.name.now None c.in-None.ensures)
