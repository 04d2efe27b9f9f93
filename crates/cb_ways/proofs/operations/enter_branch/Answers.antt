use Rattle.std.proofs.Common.{rules, arith, ◌≡◌, List, map, take, IfOk, OnOk, IfErr, ap, subst, ◌∙◌}
use Rattle.std.proofs.lemmas.Grind.{common_steps}
use Rattle.std.proofs.lemmas.Result.{on_ok_weaker, IfErr-weaker}
use Rattle.cb_spec.specs.Bound.{result_names}
use Rattle.cb_obligations.specs.Branches as spec
use Rattle.cb_obligations.specs.Branches.{Assigned}
use Rattle.cb_obligations.specs.Steps.{Step, Reach}
use Rattle.cb_wp.specs.Limits.{Counted, Faulted}
use Rattle.cb_wp.specs.Parts.{item_of, branch_of}
use Rattle.cb_conditions.specs.Conditions.{outcome}
use Rattle.cb_conditions.specs.Reading.{terms_at, given_each}
use Rattle.cb_conditions.specs.Steps.{inside_steps, weigh_each}
use Rattle.cb_conditions.specs.Ways.{Way, supposing, inside, leaving}
use Rattle.cb_symbolic.specs.Stores.{meaning_of}
use Rattle.cb_symbolic.specs.Walks.{way_of, Passes, Stops}
use Rattle.cb_ways.specs.Calls.{branch_way, result_steps, entry_steps}
use Rattle.cb_ways.proofs.WalkLemmas.{faulted_before, faulted_after, first_of_longer, entry_counted, entry_stops}
use Rattle.cb_ways.proofs.operations.enter_branch.Goals as goal

pub returns-in_err-inside-clause-fault : goal.returns-in_err-inside-clause-fault
returns-in_err-inside-clause-fault c =
    let w : Way = way_of c.args.reached c.args.walk.now in
    let b : spec.Branch = branch_of c.args.branch.now in
    let s = meaning_of (take c.args.outer c.args.walk.now.store) in
    let e = c.in_err-inside.field-0.0 in
    let u = c.args.used.now in
    let here : Faulted e u (inside_steps w b.items) = subst (λ is. Faulted e u (inside_steps w (map item_of is))) c.as_slice.ensures c.in_err-inside.ensures.fault in
    let whole : Faulted e u (entry_steps c.args.machine.now c.args.operation.now c.args.results.now s w b) =
    faulted_before e u (inside_steps w b.items) _ here in
    first_of (search (rules, whole), grind (arith, common_steps, whole))

pub returns-in_err-left-clause-fault : goal.returns-in_err-left-clause-fault
returns-in_err-left-clause-fault c =
    let w : Way = way_of c.args.reached c.args.walk.now in
    let b : spec.Branch = branch_of c.args.branch.now in
    let s = meaning_of (take c.args.outer c.args.walk.now.store) in
    let e = c.in_err-left.field-0.0 in
    let u = c.args.used.now in
    let first : Counted u u (inside_steps w b.items) = subst (λ is. Counted u u (inside_steps w (map item_of is))) c.as_slice.ensures c.in_ok-inside.ensures.counted in
    let way : way_of c.in_ok-inside.inside c.enter.new.walk ≡ inside w b.items = c.in_ok-inside.ensures.way ∙ ap (λ is. inside w (map item_of is)) c.as_slice.ensures in
    let steps : Way → Assigned → List Step = λ v ws. weigh_each v.store (terms_at c.args.results.now (given_each ws (result_names c.args.operation.now.results))) in
    let here : Faulted e u (result_steps c.args.operation.now c.args.results.now w b) =
    subst (Faulted e u) (λ i. steps (way i) (c.as_slice-writes.ensures i)) c.in_err-left.ensures.fault in
    let whole : Faulted e u (entry_steps c.args.machine.now c.args.operation.now c.args.results.now s w b) =
    faulted_after e u u (inside_steps w b.items) _ first (faulted_before e u (result_steps c.args.operation.now c.args.results.now w b) _ here) in
    first_of (search (rules, whole), grind (arith, common_steps, whole))

pub returns-clause-way : goal.returns-clause-way
returns-clause-way c =
    let w : Way = way_of c.args.reached c.args.walk.now in
    let b : spec.Branch = branch_of c.args.branch.now in
    let way : way_of c.in_ok-inside.inside c.enter.new.walk ≡ inside w b.items = c.in_ok-inside.ensures.way ∙ ap (λ is. inside w (map item_of is)) c.as_slice.ensures in
    let outer : take c.args.outer c.enter.new.walk.store ≡ take c.args.outer c.args.walk.now.store =
    first_of_longer c.args.outer c.args.walk.now.store c.enter.new.walk.store c.requires.outer (λ i. (c.in_ok-inside.ensures.extends i).store) in
    let left : c.as_slice-2.result.now ≡ outcome c.args.machine.now c.args.operation.now c.args.results.now b.writes =
    c.as_slice-2.ensures ∙ c.in_ok-left.ensures.writes ∙ ap (outcome c.args.machine.now c.args.operation.now c.args.results.now) c.as_slice-writes.ensures in
    subst (λ (v : Way). IfOk c.leave_under.result (λ p. way_of p.0 c.leave_under.new.walk ≡ v))
    (λ i. supposing (leaving (meaning_of (outer i)) (left i) (way i)) c.args.machine.now.invariant) c.leave_under.ensures.way

pub returns-clause-counted : goal.returns-clause-counted
returns-clause-counted c =
    let w : Way = way_of c.args.reached c.args.walk.now in
    let b : spec.Branch = branch_of c.args.branch.now in
    let s = meaning_of (take c.args.outer c.args.walk.now.store) in
    let u = c.args.used.now in
    let first : Counted u u (inside_steps w b.items) = subst (λ is. Counted u u (inside_steps w (map item_of is))) c.as_slice.ensures c.in_ok-inside.ensures.counted in
    let way : way_of c.in_ok-inside.inside c.enter.new.walk ≡ inside w b.items = c.in_ok-inside.ensures.way ∙ ap (λ is. inside w (map item_of is)) c.as_slice.ensures in
    let outer : take c.args.outer c.enter.new.walk.store ≡ take c.args.outer c.args.walk.now.store =
    first_of_longer c.args.outer c.args.walk.now.store c.enter.new.walk.store c.requires.outer (λ i. (c.in_ok-inside.ensures.extends i).store) in
    let left : c.as_slice-2.result.now ≡ outcome c.args.machine.now c.args.operation.now c.args.results.now b.writes =
    c.as_slice-2.ensures ∙ c.in_ok-left.ensures.writes ∙ ap (outcome c.args.machine.now c.args.operation.now c.args.results.now) c.as_slice-writes.ensures in
    let steps : Way → Assigned → List Step = λ v ws. weigh_each v.store (terms_at c.args.results.now (given_each ws (result_names c.args.operation.now.results))) in
    let second : Counted u u (result_steps c.args.operation.now c.args.results.now w b) =
    subst (Counted u u) (λ i. steps (way i) (c.as_slice-writes.ensures i)) c.in_ok-left.ensures.counted in
    on_ok_weaker c.leave_under.result
    (entry_counted u (inside_steps w b.items) (result_steps c.args.operation.now c.args.results.now w b)
    (Reach (branch_way c.args.machine.now c.args.operation.now c.args.results.now s w b).hypotheses) first second)
    (subst (λ (v : Way). OnOk c.leave_under.result (Passes (Reach v.hypotheses)))
    (λ i. supposing (leaving (meaning_of (outer i)) (left i) (way i)) c.args.machine.now.invariant) c.leave_under.ensures.passes)

pub returns-clause-fault : goal.returns-clause-fault
returns-clause-fault c =
    let w : Way = way_of c.args.reached c.args.walk.now in
    let b : spec.Branch = branch_of c.args.branch.now in
    let s = meaning_of (take c.args.outer c.args.walk.now.store) in
    let u = c.args.used.now in
    let first : Counted u u (inside_steps w b.items) = subst (λ is. Counted u u (inside_steps w (map item_of is))) c.as_slice.ensures c.in_ok-inside.ensures.counted in
    let way : way_of c.in_ok-inside.inside c.enter.new.walk ≡ inside w b.items = c.in_ok-inside.ensures.way ∙ ap (λ is. inside w (map item_of is)) c.as_slice.ensures in
    let outer : take c.args.outer c.enter.new.walk.store ≡ take c.args.outer c.args.walk.now.store =
    first_of_longer c.args.outer c.args.walk.now.store c.enter.new.walk.store c.requires.outer (λ i. (c.in_ok-inside.ensures.extends i).store) in
    let left : c.as_slice-2.result.now ≡ outcome c.args.machine.now c.args.operation.now c.args.results.now b.writes =
    c.as_slice-2.ensures ∙ c.in_ok-left.ensures.writes ∙ ap (outcome c.args.machine.now c.args.operation.now c.args.results.now) c.as_slice-writes.ensures in
    let steps : Way → Assigned → List Step = λ v ws. weigh_each v.store (terms_at c.args.results.now (given_each ws (result_names c.args.operation.now.results))) in
    let second : Counted u u (result_steps c.args.operation.now c.args.results.now w b) =
    subst (Counted u u) (λ i. steps (way i) (c.as_slice-writes.ensures i)) c.in_ok-left.ensures.counted in
    IfErr-weaker c.leave_under.result _ _
    (λ e stops. entry_stops e u (inside_steps w b.items) (result_steps c.args.operation.now c.args.results.now w b)
    (Reach (branch_way c.args.machine.now c.args.operation.now c.args.results.now s w b).hypotheses) first second stops)
    (subst (λ (v : Way). IfErr c.leave_under.result (λ e. Stops e (Reach v.hypotheses)))
    (λ i. supposing (leaving (meaning_of (outer i)) (left i) (way i)) c.args.machine.now.invariant) c.leave_under.ensures.stops)
