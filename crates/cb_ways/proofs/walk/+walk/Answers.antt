use Rattle.std.proofs.Common.{◌≡◌, ◌++◌, ◌∷◌, List, map, flat_map, take, OnOk, IfErr, sym, ap, subst, ◌∙◌}
use Rattle.std.proofs.lemmas.Result.{err_from_is_err_and, on_ok_weaker, IfErr-weaker}
use Rattle.cb_term.proofs.Steps.{drop_step}
use Rattle.cb_term.specs.declared.name.Name.{Name}
use Rattle.cb_term.specs.Tree as tree
use Rattle.cb_term.specs.Tree.{TermTree, FormulaTree}
use Rattle.cb_seq.specs.Validity.{Claim, claim_of}
use Rattle.cb_spec.specs.Bound.{names}
use Rattle.cb_spec.specs.ProcessTree.{ProcessTree}
use Rattle.cb_obligations.specs.Branches as spec
use Rattle.cb_obligations.specs.Steps.{Step, Reach}
use Rattle.cb_wp.specs.Limits.{Counted, Faulted}
use Rattle.cb_wp.specs.Parts.{branch_of}
use Rattle.cb_wp.proofs.CountLemmas.{count_after, count_step, list_step, fault_step}
use Rattle.cb_conditions.specs.Reading.{Meaning, terms_at}
use Rattle.cb_conditions.specs.Steps.{shown_steps, inside_steps, way_steps}
use Rattle.cb_conditions.specs.Ways.{Way, shown, written, supposing, ways}
use Rattle.cb_symbolic.specs.declared.walk.Walk.{Walk}
use Rattle.cb_symbolic.specs.Stores.{meaning_of}
use Rattle.cb_symbolic.specs.Walks.{way_of}
use Rattle.cb_ways.specs.Calls.{branch_way, result_steps, branch_steps, call_ways, call_steps}
use Rattle.cb_ways.proofs.CallLemmas.{met_at_call, owed_at_call, list_after}
use Rattle.cb_ways.proofs.WalkLemmas.{faulted_before, faulted_after, branch_counted, branch_stops, branch_faults}
use Rattle.cb_ways.proofs.walk.+walk.Goals as goal

-- ---- IF

pub add_if-returns-in_err-add_side-clause-fault : goal.add_if-returns-in_err-add_side-clause-fault
add_if-returns-in_err-add_side-clause-fault t c =
    let w : Way = way_of c.args.reached c.args.walk.now in
    let side : Way → FormulaTree → ProcessTree → List Step = λ x f p. Reach (supposing x f).hypotheses ∷ way_steps c.args.system.now c.args.controller.now p (supposing x f) in
    let made = err_from_is_err_and c.from_residual.result c.from_residual.ensures.1 in
    rw (made.1, made.2) (faulted_before c.in_err-add_side.field-0.0 c.args.made.now.used
    (side w c.args.test.now c.args.first.now) (side w (tree.Not c.args.test.now) c.args.second.now) c.in_err-add_side.ensures.fault)

pub add_if-returns-clause-counted : goal.add_if-returns-clause-counted
add_if-returns-clause-counted t c =
    let side : Walk → FormulaTree → ProcessTree → List Step = λ x f p.
    let v : Way = supposing (way_of c.args.reached x) f in Reach v.hypotheses ∷ way_steps c.args.system.now c.args.controller.now p v in
    let p : List Step = side c.args.walk.now c.args.test.now c.args.first.now in
    let q : Walk → List Step = λ x. side x (tree.Not c.args.test.now) c.args.second.now in
    let u = c.args.made.now.used in
    let u' = c.add_side.new.made.used in
    on_ok_weaker c.add_other_side.result
    (λ second. count_after p (q c.args.walk.now) u.obligations u.nodes u'.obligations u'.nodes c.in_ok-add_side.ensures.counted ∙ second)
    (subst (λ (x : Walk). OnOk c.add_other_side.result (Counted u' c.add_other_side.new.made.used (q x))) c.in_ok-add_side.ensures.walk c.add_other_side.ensures.counted)

pub add_if-returns-clause-fault : goal.add_if-returns-clause-fault
add_if-returns-clause-fault t c =
    let side : Walk → FormulaTree → ProcessTree → List Step = λ x f p.
    let v : Way = supposing (way_of c.args.reached x) f in Reach v.hypotheses ∷ way_steps c.args.system.now c.args.controller.now p v in
    let p : List Step = side c.args.walk.now c.args.test.now c.args.first.now in
    let q : Walk → List Step = λ x. side x (tree.Not c.args.test.now) c.args.second.now in
    let u = c.args.made.now.used in
    let u' = c.add_side.new.made.used in
    IfErr-weaker c.add_other_side.result _ _ (λ e f. faulted_after e u u' p (q c.args.walk.now) c.in_ok-add_side.ensures.counted f)
    (subst (λ (x : Walk). IfErr c.add_other_side.result (λ e. Faulted e u' (q x))) c.in_ok-add_side.ensures.walk c.add_other_side.ensures.fault)

-- ---- a call of an operation

pub add_operation-returns-in-Some-clause-counted : goal.add_operation-returns-in-Some-clause-counted
add_operation-returns-in-Some-clause-counted t c =
    let w : Way = way_of c.args.reached c.args.walk.now in
    let steps : List TermTree → List Name → List Step = λ ts xs. call_steps c.args.system.now c.args.controller.now c.in-Some.machine.now c.in-Some.operation.now ts xs c.args.process.now w in
    let whole = met_at_call c.args.system.now c.args.controller.now c.args.machine c.args.operation c.args.args.now c.args.results.now c.args.process.now w
    c.in-Some.machine.now c.in-Some.operation.now c.in-Some.ensures in
    subst (λ l. OnOk c.add_called.result (Counted c.args.made.now.used c.add_called.new.made.used l))
    ((λ i. steps (c.as_slice.ensures i) (c.as_slice-in-Some.ensures i)) ∙ sym whole) c.add_called.ensures.counted

pub add_operation-returns-in-Some-clause-list : goal.add_operation-returns-in-Some-clause-list
add_operation-returns-in-Some-clause-list t c =
    let w : Way = way_of c.args.reached c.args.walk.now in
    let owed : List TermTree → List Name → List Claim = λ ts xs. call_ways c.args.system.now c.args.controller.now c.in-Some.machine.now c.in-Some.operation.now ts xs c.args.process.now w in
    let whole = owed_at_call c.args.system.now c.args.controller.now c.args.machine c.args.operation c.args.args.now c.args.results.now c.args.process.now w
    c.in-Some.machine.now c.in-Some.operation.now c.in-Some.ensures in
    subst (λ l. OnOk c.add_called.result (map claim_of c.add_called.new.made.sequents.items ≡ map claim_of c.args.made.now.sequents.items ++ l))
    ((λ i. owed (c.as_slice.ensures i) (c.as_slice-in-Some.ensures i)) ∙ sym whole) c.add_called.ensures.list

pub add_operation-returns-in-Some-clause-fault : goal.add_operation-returns-in-Some-clause-fault
add_operation-returns-in-Some-clause-fault t c =
    let w : Way = way_of c.args.reached c.args.walk.now in
    let steps : List TermTree → List Name → List Step = λ ts xs. call_steps c.args.system.now c.args.controller.now c.in-Some.machine.now c.in-Some.operation.now ts xs c.args.process.now w in
    let whole = met_at_call c.args.system.now c.args.controller.now c.args.machine c.args.operation c.args.args.now c.args.results.now c.args.process.now w
    c.in-Some.machine.now c.in-Some.operation.now c.in-Some.ensures in
    subst (λ l. IfErr c.add_called.result (λ e. Faulted e c.args.made.now.used l))
    ((λ i. steps (c.as_slice.ensures i) (c.as_slice-in-Some.ensures i)) ∙ sym whole) c.add_called.ensures.fault

pub add_called-returns-in_err-show-clause-fault : goal.add_called-returns-in_err-show-clause-fault
add_called-returns-in_err-show-clause-fault t c =
    let w : Way = way_of c.args.reached c.args.walk.now in
    let way : way_of c.args.reached c.write_terms.new.walk ≡ written w (terms_at (names c.args.operation.now.params) c.args.args.now) =
    c.in_ok-write_terms.ensures.way c.args.reached ∙ ap (λ ds. written w (terms_at (names ds) c.args.args.now)) c.as_slice.ensures in
    let e = c.in_err-show.field-0.0 in
    let u = c.args.made.now.used in
    let made = err_from_is_err_and c.from_residual-in_err-show.result c.from_residual-in_err-show.ensures.1 in
    let here : Way = written w (terms_at (names c.args.operation.now.params) c.args.args.now) in
    rw (made.1, made.2) (faulted_before e u (shown_steps here c.args.operation.now.pre)
    (flat_map (branch_steps c.args.system.now c.args.controller.now c.args.machine.now c.args.operation.now c.args.results.now c.args.process.now w.store here) (spec.branches c.args.operation.now.body))
    (subst (λ (v : Way). Faulted e u (shown_steps v c.args.operation.now.pre)) way c.in_err-show.ensures.fault))

pub add_called-returns-in_err-add_branches-clause-fault : goal.add_called-returns-in_err-add_branches-clause-fault
add_called-returns-in_err-add_branches-clause-fault t c =
    let w : Way = way_of c.args.reached c.args.walk.now in
    let here : Way = written w (terms_at (names c.args.operation.now.params) c.args.args.now) in
    let way : way_of c.args.reached c.write_terms.new.walk ≡ here =
    c.in_ok-write_terms.ensures.way c.args.reached ∙ ap (λ ds. written w (terms_at (names ds) c.args.args.now)) c.as_slice.ensures in
    let then_way : way_of c.args.reached c.show.new.walk ≡ here = (λ i. way_of c.args.reached (c.in_ok-show.ensures.walk i)) ∙ way in
    let outer : take c.mark-mark.result.store c.show.new.walk.store ≡ c.args.walk.now.store =
    (λ i. take (c.mark-mark.ensures i).store (c.in_ok-show.ensures.walk i).store) ∙ (λ i. (c.in_ok-write_terms.ensures.extends i).store) in
    let e = c.in_err-add_branches.field-0.0 in
    let u = c.args.made.now.used in
    let u' = c.show.new.made.used in
    let steps : Meaning → Way → List Step = λ s v. flat_map (branch_steps c.args.system.now c.args.controller.now c.args.machine.now c.args.operation.now c.args.results.now c.args.process.now s v)
    (spec.branches c.args.operation.now.body) in
    let first : Counted u u' (shown_steps here c.args.operation.now.pre) =
    subst (λ (v : Way). Counted u u' (shown_steps v c.args.operation.now.pre)) way c.in_ok-show.ensures.counted in
    let behind : Faulted e u' (steps w.store here) =
    subst (Faulted e u') (λ i. steps (meaning_of (outer i)) (then_way i)) c.in_err-add_branches.ensures.fault in
    let made = err_from_is_err_and c.from_residual-in_err-add_branches.result c.from_residual-in_err-add_branches.ensures.1 in
    rw (made.1, made.2) (faulted_after e u u' (shown_steps here c.args.operation.now.pre) (steps w.store here) first behind)

pub add_called-returns-clause-counted : goal.add_called-returns-clause-counted
add_called-returns-clause-counted t c =
    let w : Way = way_of c.args.reached c.args.walk.now in
    let here : Way = written w (terms_at (names c.args.operation.now.params) c.args.args.now) in
    let way : way_of c.args.reached c.write_terms.new.walk ≡ here =
    c.in_ok-write_terms.ensures.way c.args.reached ∙ ap (λ ds. written w (terms_at (names ds) c.args.args.now)) c.as_slice.ensures in
    let then_way : way_of c.args.reached c.show.new.walk ≡ here = (λ i. way_of c.args.reached (c.in_ok-show.ensures.walk i)) ∙ way in
    let outer : take c.mark-mark.result.store c.show.new.walk.store ≡ c.args.walk.now.store =
    (λ i. take (c.mark-mark.ensures i).store (c.in_ok-show.ensures.walk i).store) ∙ (λ i. (c.in_ok-write_terms.ensures.extends i).store) in
    let u = c.args.made.now.used in
    let u' = c.show.new.made.used in
    let u'' = c.add_branches.new.made.used in
    let steps : Meaning → Way → List Step = λ s v. flat_map (branch_steps c.args.system.now c.args.controller.now c.args.machine.now c.args.operation.now c.args.results.now c.args.process.now s v)
    (spec.branches c.args.operation.now.body) in
    let first : Counted u u' (shown_steps here c.args.operation.now.pre) =
    subst (λ (v : Way). Counted u u' (shown_steps v c.args.operation.now.pre)) way c.in_ok-show.ensures.counted in
    let behind : Counted u' u'' (steps w.store here) =
    subst (Counted u' u'') (λ i. steps (meaning_of (outer i)) (then_way i)) c.in_ok-add_branches.ensures.counted in
    count_after (shown_steps here c.args.operation.now.pre) (steps w.store here) u.obligations u.nodes u'.obligations u'.nodes first ∙ behind

pub add_called-returns-clause-list : goal.add_called-returns-clause-list
add_called-returns-clause-list t c =
    let w : Way = way_of c.args.reached c.args.walk.now in
    let here : Way = written w (terms_at (names c.args.operation.now.params) c.args.args.now) in
    let way : way_of c.args.reached c.write_terms.new.walk ≡ here =
    c.in_ok-write_terms.ensures.way c.args.reached ∙ ap (λ ds. written w (terms_at (names ds) c.args.args.now)) c.as_slice.ensures in
    let then_way : way_of c.args.reached c.show.new.walk ≡ here = (λ i. way_of c.args.reached (c.in_ok-show.ensures.walk i)) ∙ way in
    let outer : take c.mark-mark.result.store c.show.new.walk.store ≡ c.args.walk.now.store =
    (λ i. take (c.mark-mark.ensures i).store (c.in_ok-show.ensures.walk i).store) ∙ (λ i. (c.in_ok-write_terms.ensures.extends i).store) in
    let owed : Meaning → Way → List Claim = λ s v. flat_map
    (λ (b : spec.Branch). ways c.args.system.now c.args.controller.now c.args.process.now (branch_way c.args.machine.now c.args.operation.now c.args.results.now s v b)) (spec.branches c.args.operation.now.body) in
    let old : List Claim = map claim_of c.args.made.now.sequents.items in
    let middle : List Claim = map claim_of c.show.new.made.sequents.items in
    let new : List Claim = map claim_of c.add_branches.new.made.sequents.items in
    list_after old middle new (shown here c.args.operation.now.pre) (owed w.store here)
    (c.in_ok-show.ensures.list ∙ λ i. old ++ shown (way i) c.args.operation.now.pre)
    (c.in_ok-add_branches.ensures.list ∙ λ i. middle ++ owed (meaning_of (outer i)) (then_way i))

pub add_each-returns-in_err-add_branch-clause-fault : goal.add_each-returns-in_err-add_branch-clause-fault
add_each-returns-in_err-add_branch-clause-fault t c =
    let steps : Walk → spec.Branch → List Step = λ x. branch_steps c.args.system.now c.args.controller.now c.args.machine.now c.args.operation.now c.args.results.now c.args.process.now
    (meaning_of (take c.args.outer x.store)) (way_of c.args.reached x) in
    let e = c.in_err-add_branch.field-0.0 in
    let b : spec.Branch = branch_of c.branch-item.result in
    let is = ap (map branch_of) (drop_step _ _ c.branch-item.result c.loop-branch-test.true c.branch-item.is) in
    let here : Faulted e c.loop-branch.made.used (steps c.args.walk.now b) =
    subst (λ (x : Walk). Faulted e c.loop-branch.made.used (steps x b)) c.loop-branch.invariant.walk c.in_err-add_branch.ensures.fault in
    let made = err_from_is_err_and c.from_residual.result c.from_residual.ensures.1 in
    rw (made.1, made.2) (fault_step (steps c.args.walk.now) b _ _ (map branch_of c.args.branches.now) c.args.made.now.used c.loop-branch.made.used e is c.loop-branch.invariant.counted here)

pub add_each-loop-branch-preserved : goal.add_each-loop-branch-preserved
add_each-loop-branch-preserved t c =
    let steps : Walk → spec.Branch → List Step = λ x. branch_steps c.args.system.now c.args.controller.now c.args.machine.now c.args.operation.now c.args.results.now c.args.process.now
    (meaning_of (take c.args.outer x.store)) (way_of c.args.reached x) in
    let owed : Walk → spec.Branch → List Claim = λ x b. ways c.args.system.now c.args.controller.now c.args.process.now
    (branch_way c.args.machine.now c.args.operation.now c.args.results.now (meaning_of (take c.args.outer x.store)) (way_of c.args.reached x) b) in
    let b : spec.Branch = branch_of c.branch-item.result in
    let is = ap (map branch_of) (drop_step _ _ c.branch-item.result c.loop-branch-test.true c.branch-item.is) in
    record {
      walk = c.in_ok-add_branch.ensures.walk ∙ c.loop-branch.invariant.walk;
      counted = count_step (steps c.args.walk.now) b _ _ _ _ _ _ _ is
          (subst (λ (x : Walk). Counted c.loop-branch.made.used c.add_branch.new.made.used (steps x b)) c.loop-branch.invariant.walk c.in_ok-add_branch.ensures.counted)
          c.loop-branch.invariant.counted;
      list = list_step (owed c.args.walk.now) b _ _ _ _ _ is
          (c.in_ok-add_branch.ensures.list ∙ λ i. map claim_of c.loop-branch.made.sequents.items ++ owed (c.loop-branch.invariant.walk i) b)
          c.loop-branch.invariant.list;
    }

-- ---- a branch

pub add_branch-returns-in_err-inside-clause-fault : goal.add_branch-returns-in_err-inside-clause-fault
add_branch-returns-in_err-inside-clause-fault t c =
    let w : Way = way_of c.args.reached c.args.walk.now in
    let b : spec.Branch = branch_of c.args.branch.now in
    let v : Way = branch_way c.args.machine.now c.args.operation.now c.args.results.now (meaning_of (take c.args.outer c.args.walk.now.store)) w b in
    let made = err_from_is_err_and c.from_residual.result c.from_residual.ensures.1 in
    rw (made.1, made.2) (branch_stops c.in_err-inside.field-0.0 c.args.made.now.used (inside_steps w b.items) (result_steps c.args.operation.now c.args.results.now w b)
    (way_steps c.args.system.now c.args.controller.now c.args.process.now v) (Reach v.hypotheses) c.in_err-inside.ensures.fault)

pub add_branch-returns-in_err-add_ways-clause-fault : goal.add_branch-returns-in_err-add_ways-clause-fault
add_branch-returns-in_err-add_ways-clause-fault t c =
    let w : Way = way_of c.args.reached c.args.walk.now in
    let b : spec.Branch = branch_of c.args.branch.now in
    let v : Way = branch_way c.args.machine.now c.args.operation.now c.args.results.now (meaning_of (take c.args.outer c.args.walk.now.store)) w b in
    let e = c.in_err-add_ways.field-0.0 in
    let u = c.args.made.now.used in
    let rest : Way → List Step = way_steps c.args.system.now c.args.controller.now c.args.process.now in
    let made = err_from_is_err_and c.from_residual-in_err-add_ways.result c.from_residual-in_err-add_ways.ensures.1 in
    rw (made.1, made.2) (branch_faults e u (inside_steps w b.items) (result_steps c.args.operation.now c.args.results.now w b) (rest v) (Reach v.hypotheses)
    c.in_ok-inside.ensures.counted (subst (λ (x : Way). Faulted e u (rest x)) c.in_ok-inside.ensures.way c.in_err-add_ways.ensures.fault))

pub add_branch-returns-clause-counted : goal.add_branch-returns-clause-counted
add_branch-returns-clause-counted t c =
    let w : Way = way_of c.args.reached c.args.walk.now in
    let b : spec.Branch = branch_of c.args.branch.now in
    let v : Way = branch_way c.args.machine.now c.args.operation.now c.args.results.now (meaning_of (take c.args.outer c.args.walk.now.store)) w b in
    let u = c.args.made.now.used in
    let u' = c.add_ways.new.made.used in
    let rest : Way → List Step = way_steps c.args.system.now c.args.controller.now c.args.process.now in
    branch_counted u u' (inside_steps w b.items) (result_steps c.args.operation.now c.args.results.now w b) (rest v) (Reach v.hypotheses)
    c.in_ok-inside.ensures.counted (subst (λ (x : Way). Counted u u' (rest x)) c.in_ok-inside.ensures.way c.in_ok-add_ways.ensures.counted)
