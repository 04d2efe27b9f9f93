use Rattle.std.proofs.Common.{◌≡◌, map, ap, subst, ◌∙◌, rules, arith}
use Rattle.std.proofs.lemmas.Grind.{common_steps}
use Rattle.std.proofs.lemmas.Result.{on_ok_weaker, IfErr-weaker}
use Rattle.cb_seq.specs.Validity.{claim_of}
use Rattle.cb_wp.specs.Limits.{Counted, Faulted}
use Rattle.cb_wp.specs.Parts.{item_of, branch_of}
use Rattle.cb_conditions.specs.Conditions.{own_names}
use Rattle.cb_conditions.specs.Reading.{itself}
use Rattle.cb_conditions.specs.Steps.{inside_steps}
use Rattle.cb_conditions.specs.Ways.{Way, at_first, inside, leaving}
use Rattle.cb_symbolic.specs.Walks.{way_of}
use Rattle.cb_starts.specs.Starts.{beginning_steps}
use Rattle.cb_starts.proofs.Walked.{entering_stops, supposing_stops, all_counted, all_made, walking_stops}
use Rattle.cb_starts.proofs.start.add_after.Goals as goal

pub returns-in_err-inside-clause-fault : goal.returns-in_err-inside-clause-fault
returns-in_err-inside-clause-fault c =
    let y = c.args.system.now in
    let k = c.args.controller.now in
    let first : Way = way_of c.beginning.result c.args.walk.now in
    let is_first : first ≡ at_first (own_names y k) = λ i. way_of (c.beginning.ensures i) (c.requires i) in
    let whole : Faulted c.in_err-inside.field-0.0 c.args.made.now.used (beginning_steps y k (branch_of c.args.branch.now)) =
    entering_stops y k (branch_of c.args.branch.now) first c.args.made.now.used c.in_err-inside.field-0.0 is_first
    (subst (λ is. Faulted c.in_err-inside.field-0.0 c.args.made.now.used (inside_steps first (map item_of is))) c.as_slice.ensures c.in_err-inside.ensures.fault) in
    first_of (search (rules, whole), grind (arith, common_steps, whole))

pub returns-in_err-reached-clause-fault : goal.returns-in_err-reached-clause-fault
returns-in_err-reached-clause-fault c =
    let y = c.args.system.now in
    let k = c.args.controller.now in
    let first : Way = way_of c.beginning.result c.args.walk.now in
    let entered : Way = way_of c.in_ok-inside.inside c.enter.new.walk in
    let is_first : first ≡ at_first (own_names y k) = λ i. way_of (c.beginning.ensures i) (c.requires i) in
    let whole : Faulted c.in_err-reached.field-0.0 c.args.made.now.used (beginning_steps y k (branch_of c.args.branch.now)) =
    supposing_stops y k (branch_of c.args.branch.now) first entered (way_of c.in_ok-inside.inside c.write_all.new.walk) c.args.made.now.used is_first
    (c.in_ok-inside.ensures.way ∙ ap (λ is. inside first (map item_of is)) c.as_slice.ensures)
    (c.in_ok-write_all.ensures.way c.in_ok-inside.inside ∙ ap (λ ws. leaving itself ws entered) c.as_slice-2.ensures)
    (subst (λ is. Counted c.args.made.now.used c.args.made.now.used (inside_steps first (map item_of is))) c.as_slice.ensures c.in_ok-inside.ensures.counted)
    c.in_err-reached.field-0.0 c.in_err-reached.ensures.stops in
    first_of (search (rules, whole), grind (arith, common_steps, whole))

pub returns-clause-counted : goal.returns-clause-counted
returns-clause-counted c =
    let y = c.args.system.now in
    let k = c.args.controller.now in
    let first : Way = way_of c.beginning.result c.args.walk.now in
    let entered : Way = way_of c.in_ok-inside.inside c.enter.new.walk in
    let is_first : first ≡ at_first (own_names y k) = λ i. way_of (c.beginning.ensures i) (c.requires i) in
    on_ok_weaker c.add_call.result
    (all_counted y k (branch_of c.args.branch.now) first entered (way_of c.in_ok-inside.inside c.write_all.new.walk) c.args.made.now.used is_first
    (c.in_ok-inside.ensures.way ∙ ap (λ is. inside first (map item_of is)) c.as_slice.ensures)
    (c.in_ok-write_all.ensures.way c.in_ok-inside.inside ∙ ap (λ ws. leaving itself ws entered) c.as_slice-2.ensures)
    (subst (λ is. Counted c.args.made.now.used c.args.made.now.used (inside_steps first (map item_of is))) c.as_slice.ensures c.in_ok-inside.ensures.counted)
    (way_of c.in_ok-reached.reached c.suppose_invariants.new.walk) c.in_ok-reached.ensures.way c.in_ok-reached.ensures.passes
    c.add_call.new.made.used)
    c.add_call.ensures.counted

pub returns-clause-list : goal.returns-clause-list
returns-clause-list c =
    let y = c.args.system.now in
    let k = c.args.controller.now in
    let first : Way = way_of c.beginning.result c.args.walk.now in
    let entered : Way = way_of c.in_ok-inside.inside c.enter.new.walk in
    let is_first : first ≡ at_first (own_names y k) = λ i. way_of (c.beginning.ensures i) (c.requires i) in
    on_ok_weaker c.add_call.result
    (all_made y k (branch_of c.args.branch.now) first entered (way_of c.in_ok-inside.inside c.write_all.new.walk) c.args.made.now.used is_first
    (c.in_ok-inside.ensures.way ∙ ap (λ is. inside first (map item_of is)) c.as_slice.ensures)
    (c.in_ok-write_all.ensures.way c.in_ok-inside.inside ∙ ap (λ ws. leaving itself ws entered) c.as_slice-2.ensures)
    (subst (λ is. Counted c.args.made.now.used c.args.made.now.used (inside_steps first (map item_of is))) c.as_slice.ensures c.in_ok-inside.ensures.counted)
    (way_of c.in_ok-reached.reached c.suppose_invariants.new.walk) c.in_ok-reached.ensures.way c.in_ok-reached.ensures.passes
    (map claim_of c.args.made.now.sequents.items) (map claim_of c.add_call.new.made.sequents.items))
    c.add_call.ensures.list

pub returns-clause-fault : goal.returns-clause-fault
returns-clause-fault c =
    let y = c.args.system.now in
    let k = c.args.controller.now in
    let first : Way = way_of c.beginning.result c.args.walk.now in
    let entered : Way = way_of c.in_ok-inside.inside c.enter.new.walk in
    let is_first : first ≡ at_first (own_names y k) = λ i. way_of (c.beginning.ensures i) (c.requires i) in
    IfErr-weaker c.add_call.result _ _
    (walking_stops y k (branch_of c.args.branch.now) first entered (way_of c.in_ok-inside.inside c.write_all.new.walk) c.args.made.now.used is_first
    (c.in_ok-inside.ensures.way ∙ ap (λ is. inside first (map item_of is)) c.as_slice.ensures)
    (c.in_ok-write_all.ensures.way c.in_ok-inside.inside ∙ ap (λ ws. leaving itself ws entered) c.as_slice-2.ensures)
    (subst (λ is. Counted c.args.made.now.used c.args.made.now.used (inside_steps first (map item_of is))) c.as_slice.ensures c.in_ok-inside.ensures.counted)
    (way_of c.in_ok-reached.reached c.suppose_invariants.new.walk) c.in_ok-reached.ensures.way c.in_ok-reached.ensures.passes)
    c.add_call.ensures.fault
