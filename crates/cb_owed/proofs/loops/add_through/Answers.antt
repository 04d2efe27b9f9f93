use Rattle.std.proofs.Common.{◌≡◌, ap, ◌∙◌, rules, arith}
use Rattle.std.proofs.lemmas.Grind.{common_steps}
use Rattle.cb_wp.specs.Limits.{Faulted}
use Rattle.cb_conditions.specs.Conditions.{own_names}
use Rattle.cb_conditions.specs.Steps.{loop_steps}
use Rattle.cb_conditions.specs.Ways.{Way, at_first, opening_each}
use Rattle.cb_symbolic.specs.Walks.{way_of}
use Rattle.cb_owed.proofs.Walked.{knowing_stops}
use Rattle.cb_owed.proofs.loops.add_through.Goals as goal

pub returns-in_err-reached-clause-fault : goal.returns-in_err-reached-clause-fault
returns-in_err-reached-clause-fault c =
    let y = c.args.system.now in
    let k = c.args.controller.now in
    let first : Way = way_of c.beginning.result c.args.walk.now in
    let is_first : first ≡ at_first (own_names y k) = λ i. way_of (c.beginning.ensures i) (c.requires i) in
    let whole : Faulted c.in_err-reached.field-0.0 c.args.made.now.used (loop_steps y k c.args.definition.now) =
    knowing_stops y k c.args.definition.now first (way_of c.in_ok-opened.opened c.open_declared.new.walk) c.args.made.now.used
    is_first (c.in_ok-opened.ensures.way ∙ ap (λ ds. opening_each first ds) c.as_slice.ensures)
    c.in_err-reached.field-0.0 c.in_err-reached.ensures.stops in
    first_of (search (rules, whole), grind (arith, common_steps, whole))
