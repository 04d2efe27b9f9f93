use Rattle.std.proofs.Common.{◌≡◌, true, sym, subst, arith}
use Rattle.std.proofs.lemmas.Grind.{common_steps}
use Rattle.cb_term.specs.Sets.{IsAscending}
use Rattle.cb_eval.specs.Evaluation.{is_ascending}
use Rattle.cb_eval.proofs.SetLemmas.{ascending_tells}
use Rattle.cb_eval.proofs.widen.widened.Goals as goal

pub set-requires : goal.set-requires
set-requires c =
    let whole : c.loop-item.wide.items ≡ c.as_slice-items.result.now = grind (arith, common_steps) in
    let up : is_ascending c.as_slice-items.result.now ≡ true = grind (arith, common_steps) in
    subst IsAscending (sym whole) (ascending_tells _ up)
