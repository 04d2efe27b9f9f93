use Rattle.std.proofs.Common.{◌≡◌, ◌++◌, inl, inr, sym, ap, ◌∙◌, rules, arith}
use Rattle.std.proofs.lemmas.Grind.{common_steps}
use Rattle.std.proofs.lemmas.Result.{on_ok_weaker, IfErr-weaker}
use Rattle.cb_spec.specs.ProcessView.{process_of}
use Rattle.cb_wp.specs.Limits.{Faulted}
use Rattle.cb_conditions.specs.Conditions.{match_formulas}
use Rattle.cb_matches.specs.Matches.{event_formulas, formulas_steps}
use Rattle.cb_matches.proofs.Annotated.{of_prefix, of_sides}
use Rattle.cb_matches.proofs.Formulas.{counted_both, fault_first, fault_second}
use Rattle.cb_matches.proofs.matches.+add_annotations.Goals as goal

pub returns-in_err-add_event-in-Prefix-clause-fault : goal.returns-in_err-add_event-in-Prefix-clause-fault
returns-in_err-add_event-in-Prefix-clause-fault t c =
    let y = c.args.system.now in
    let e = c.in_err-add_event-in-Prefix.field-0.0 in
    let whole : Faulted e c.args.made.now.used (formulas_steps (match_formulas y c.args.process.now)) =
    fault_first (event_formulas y c.in-Prefix.event) (match_formulas y c.in-Prefix.then.value) (match_formulas y c.args.process.now) c.args.made.now.used e
    (ap (match_formulas y) (sym c.process.view_is ∙ ap process_of c.in-Prefix.is) ∙ of_prefix y c.in-Prefix.event c.in-Prefix.then.value) c.in_err-add_event-in-Prefix.ensures.fault in
    first_of (search (rules, whole), grind (arith, common_steps, whole))

pub returns-in_ok-add_event-in-Prefix-clause-counted : goal.returns-in_ok-add_event-in-Prefix-clause-counted
returns-in_ok-add_event-in-Prefix-clause-counted t c =
    let y = c.args.system.now in
    on_ok_weaker c.add_annotations.result
    (counted_both (event_formulas y c.in-Prefix.event) (match_formulas y c.deref.result.now) (match_formulas y c.args.process.now)
    c.args.made.now.used c.add_event.new.made.used c.add_annotations.new.made.used
    (ap (match_formulas y) (sym c.process.view_is ∙ ap process_of c.in-Prefix.is) ∙ of_prefix y c.in-Prefix.event c.in-Prefix.then.value ∙ ap (λ p. event_formulas y c.in-Prefix.event ++ match_formulas y p) (sym c.deref.ensures))
    c.in_ok-add_event-in-Prefix.ensures.counted)
    c.add_annotations.ensures.counted

pub returns-in_ok-add_event-in-Prefix-clause-fault : goal.returns-in_ok-add_event-in-Prefix-clause-fault
returns-in_ok-add_event-in-Prefix-clause-fault t c =
    let y = c.args.system.now in
    IfErr-weaker c.add_annotations.result _ _
    (λ e f. fault_second (event_formulas y c.in-Prefix.event) (match_formulas y c.deref.result.now) (match_formulas y c.args.process.now)
    c.args.made.now.used c.add_event.new.made.used e
    (ap (match_formulas y) (sym c.process.view_is ∙ ap process_of c.in-Prefix.is) ∙ of_prefix y c.in-Prefix.event c.in-Prefix.then.value ∙ ap (λ p. event_formulas y c.in-Prefix.event ++ match_formulas y p) (sym c.deref.ensures))
    c.in_ok-add_event-in-Prefix.ensures.counted f)
    c.add_annotations.ensures.fault

pub returns-in_err-add_annotations-in-If-clause-fault : goal.returns-in_err-add_annotations-in-If-clause-fault
returns-in_err-add_annotations-in-If-clause-fault t c =
    let y = c.args.system.now in
    let e = c.in_err-add_annotations-in-If.field-0.0 in
    let whole : Faulted e c.args.made.now.used (formulas_steps (match_formulas y c.args.process.now)) =
    fault_first (match_formulas y c.deref-in-If.result.now) (match_formulas y c.in-If.other.value) (match_formulas y c.args.process.now) c.args.made.now.used e
    (ap (match_formulas y) (sym c.process.view_is ∙ ap process_of c.in-If.is) ∙ ap (λ p. match_formulas y p ++ match_formulas y c.in-If.other.value) (sym c.deref-in-If.ensures))
    c.in_err-add_annotations-in-If.ensures.fault in
    first_of (search (rules, whole), grind (arith, common_steps, whole))

pub returns-in_ok-add_annotations-in-If-clause-counted : goal.returns-in_ok-add_annotations-in-If-clause-counted
returns-in_ok-add_annotations-in-If-clause-counted t c =
    let y = c.args.system.now in
    on_ok_weaker c.add_annotations-in-If-2.result
    (counted_both (match_formulas y c.deref-in-If.result.now) (match_formulas y c.deref-in-If-2.result.now) (match_formulas y c.args.process.now)
    c.args.made.now.used c.add_annotations-in-If.new.made.used c.add_annotations-in-If-2.new.made.used
    (ap (match_formulas y) (sym c.process.view_is ∙ ap process_of c.in-If.is) ∙ of_sides y c.deref-in-If.result.now c.deref-in-If-2.result.now c.in-If.then.value c.in-If.other.value c.deref-in-If.ensures c.deref-in-If-2.ensures)
    c.in_ok-add_annotations-in-If.ensures.counted)
    c.add_annotations-in-If-2.ensures.counted

pub returns-in_ok-add_annotations-in-If-clause-fault : goal.returns-in_ok-add_annotations-in-If-clause-fault
returns-in_ok-add_annotations-in-If-clause-fault t c =
    let y = c.args.system.now in
    IfErr-weaker c.add_annotations-in-If-2.result _ _
    (λ e f. fault_second (match_formulas y c.deref-in-If.result.now) (match_formulas y c.deref-in-If-2.result.now) (match_formulas y c.args.process.now)
    c.args.made.now.used c.add_annotations-in-If.new.made.used e
    (ap (match_formulas y) (sym c.process.view_is ∙ ap process_of c.in-If.is) ∙ of_sides y c.deref-in-If.result.now c.deref-in-If-2.result.now c.in-If.then.value c.in-If.other.value c.deref-in-If.ensures c.deref-in-If-2.ensures)
    c.in_ok-add_annotations-in-If.ensures.counted f)
    c.add_annotations-in-If-2.ensures.fault

pub returns-in_err-add_annotations-in-Choice-clause-fault : goal.returns-in_err-add_annotations-in-Choice-clause-fault
returns-in_err-add_annotations-in-Choice-clause-fault t c =
    let y = c.args.system.now in
    let e = c.in_err-add_annotations-in-Choice.field-0.0 in
    let node : match_formulas y (process_of c.process.inside.node) ≡ match_formulas y c.in-Choice.left.value ++ match_formulas y c.in-Choice.right.value =
    elim c.in-Choice.is [ inl is ↦ ap (λ n. match_formulas y (process_of n)) is | inr is ↦ ap (λ n. match_formulas y (process_of n)) is ] in
    let whole : Faulted e c.args.made.now.used (formulas_steps (match_formulas y c.args.process.now)) =
    fault_first (match_formulas y c.deref-in-Choice.result.now) (match_formulas y c.in-Choice.right.value) (match_formulas y c.args.process.now) c.args.made.now.used e
    (ap (match_formulas y) (sym c.process.view_is) ∙ node ∙ ap (λ p. match_formulas y p ++ match_formulas y c.in-Choice.right.value) (sym c.deref-in-Choice.ensures))
    c.in_err-add_annotations-in-Choice.ensures.fault in
    first_of (search (rules, whole), grind (arith, common_steps, whole))

pub returns-in_ok-add_annotations-in-Choice-clause-counted : goal.returns-in_ok-add_annotations-in-Choice-clause-counted
returns-in_ok-add_annotations-in-Choice-clause-counted t c =
    let y = c.args.system.now in
    let node : match_formulas y (process_of c.process.inside.node) ≡ match_formulas y c.in-Choice.left.value ++ match_formulas y c.in-Choice.right.value =
    elim c.in-Choice.is [ inl is ↦ ap (λ n. match_formulas y (process_of n)) is | inr is ↦ ap (λ n. match_formulas y (process_of n)) is ] in
    on_ok_weaker c.add_annotations-in-Choice-2.result
    (counted_both (match_formulas y c.deref-in-Choice.result.now) (match_formulas y c.deref-in-Choice-2.result.now) (match_formulas y c.args.process.now)
    c.args.made.now.used c.add_annotations-in-Choice.new.made.used c.add_annotations-in-Choice-2.new.made.used
    (ap (match_formulas y) (sym c.process.view_is) ∙ node ∙ of_sides y c.deref-in-Choice.result.now c.deref-in-Choice-2.result.now c.in-Choice.left.value c.in-Choice.right.value c.deref-in-Choice.ensures c.deref-in-Choice-2.ensures)
    c.in_ok-add_annotations-in-Choice.ensures.counted)
    c.add_annotations-in-Choice-2.ensures.counted

pub returns-in_ok-add_annotations-in-Choice-clause-fault : goal.returns-in_ok-add_annotations-in-Choice-clause-fault
returns-in_ok-add_annotations-in-Choice-clause-fault t c =
    let y = c.args.system.now in
    let node : match_formulas y (process_of c.process.inside.node) ≡ match_formulas y c.in-Choice.left.value ++ match_formulas y c.in-Choice.right.value =
    elim c.in-Choice.is [ inl is ↦ ap (λ n. match_formulas y (process_of n)) is | inr is ↦ ap (λ n. match_formulas y (process_of n)) is ] in
    IfErr-weaker c.add_annotations-in-Choice-2.result _ _
    (λ e f. fault_second (match_formulas y c.deref-in-Choice.result.now) (match_formulas y c.deref-in-Choice-2.result.now) (match_formulas y c.args.process.now)
    c.args.made.now.used c.add_annotations-in-Choice.new.made.used e
    (ap (match_formulas y) (sym c.process.view_is) ∙ node ∙ of_sides y c.deref-in-Choice.result.now c.deref-in-Choice-2.result.now c.in-Choice.left.value c.in-Choice.right.value c.deref-in-Choice.ensures c.deref-in-Choice-2.ensures)
    c.in_ok-add_annotations-in-Choice.ensures.counted f)
    c.add_annotations-in-Choice-2.ensures.fault
