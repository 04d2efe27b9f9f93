use Rattle.std.proofs.Common.{◌++◌, ap, ◌∙◌}
use Rattle.cb_matches.specs.Matches.{declared_at}
use Rattle.cb_matches.proofs.Annotated.{declared_step}
use Rattle.cb_matches.proofs.matches.declared_as.Goals as goal

pub loop-i-preserved : goal.loop-i-preserved
loop-i-preserved c =
    declared_step c.args.names.now c.args.values.now c.loop-i.i c.index-names-i.result c.loop-i.declared.items _ _ c.loop-i-test.true c.index-names-i.is
    (c.in_ok-add_declared.ensures ∙ ap (λ o. c.loop-i.declared.items ++ declared_at c.index-names-i.result o) c.at.ensures)
    c.loop-i.invariant
