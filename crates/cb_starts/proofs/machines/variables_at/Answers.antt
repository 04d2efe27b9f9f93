use Rattle.std.proofs.Common.{◌++◌, get_or, ap, ◌∙◌}
use Rattle.std.proofs.lemmas.List.{drop_more}
use Rattle.cb_obligations.specs.Owed.{with_kinds}
use Rattle.cb_starts.specs.Starts.{own_variables}
use Rattle.cb_starts.proofs.Together.{kinds_step}
use Rattle.cb_starts.proofs.machines.variables_at.Goals as goal

pub loop-place-preserved : goal.loop-place-preserved
loop-place-preserved c =
    kinds_step c.args.machines.now _ _ (get_or c.args.places.now c.loop-place.place-index 0) c.loop-place.names _ _
    (drop_more c.args.places.now c.loop-place.place-index 0 c.loop-place-test.true)
    (c.in_ok-add_variables.ensures ∙ ap (λ o. c.loop-place.names ++ with_kinds (own_variables o)) c.at.ensures)
    c.loop-place.invariant
