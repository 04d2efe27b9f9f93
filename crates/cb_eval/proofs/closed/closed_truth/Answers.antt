use Rattle.std.proofs.Common.{◌≡◌, IfOk, subst}
use Rattle.cb_term.specs.Table.{sizes_of}
use Rattle.cb_spec.specs.Stores.{look_of}
use Rattle.cb_eval.proofs.ClosedLemmas.{truth_exact}
use Rattle.cb_eval.proofs.closed.closed_truth.Goals as goal

pub returns : goal.returns
returns c =
    subst (λ w. IfOk c.truth_in.result (λ o. o ≡ w)) (truth_exact (sizes_of c.args.sets.now) (look_of c.new-store.result) c.new-bound.result.items c.args.formula.now) c.truth_in.ensures.value
