use Rattle.std.proofs.Common.{◌≡◌, IfOk, OnOk, IfErr, ap, subst, ◌∙◌, rules, arith}
use Rattle.std.proofs.lemmas.Grind.{common_steps}
use Rattle.cb_term.specs.Tree.{FormulaTree, And}
use Rattle.cb_obligations.specs.Steps.{Reach}
use Rattle.cb_conditions.specs.Conditions.{typings, invariants_of, machines_of}
use Rattle.cb_conditions.specs.Ways.{Way, supposing}
use Rattle.cb_symbolic.specs.Walks.{way_of, Passes, Stops}
use Rattle.cb_starts.proofs.Supposed.{stops_both}
use Rattle.cb_owed.proofs.Walked.{all_three, stops_second}
use Rattle.cb_owed.proofs.loops.suppose_known.Goals as goal

pub returns-in_err-typed-clause-stops : goal.returns-in_err-typed-clause-stops
returns-in_err-typed-clause-stops c =
    let w : Way = way_of c.args.reached c.args.walk.now in
    let f : FormulaTree = typings c.args.definition.now.params in
    let g : FormulaTree = invariants_of (machines_of c.args.system.now c.args.controller.now) in
    let h : FormulaTree = c.args.definition.now.invariant in
    let whole : Stops c.in_err-typed.field-0.0 (Reach (supposing w (And f (And g h))).hypotheses) =
    stops_both w f (And g h) c.in_err-typed.field-0.0
    (subst (λ ds. Stops c.in_err-typed.field-0.0 (Reach (supposing w (typings ds)).hypotheses)) c.as_slice.ensures c.in_err-typed.ensures.stops) in
    first_of (search (rules, whole), grind (arith, common_steps, whole))

pub returns-in_err-kept-clause-stops : goal.returns-in_err-kept-clause-stops
returns-in_err-kept-clause-stops c =
    let w : Way = way_of c.args.reached c.args.walk.now in
    let f : FormulaTree = typings c.args.definition.now.params in
    let g : FormulaTree = invariants_of (machines_of c.args.system.now c.args.controller.now) in
    let h : FormulaTree = c.args.definition.now.invariant in
    let v : Way = way_of c.in_ok-typed.typed c.suppose_domains.new.walk in
    let is_v : v ≡ supposing w f = c.in_ok-typed.ensures.way ∙ ap (λ ds. supposing w (typings ds)) c.as_slice.ensures in
    let whole : Stops c.in_err-kept.field-0.0 (Reach (supposing w (And f (And g h))).hypotheses) =
    stops_second w v f g h is_v c.in_err-kept.field-0.0 c.in_err-kept.ensures.stops in
    first_of (search (rules, whole), grind (arith, common_steps, whole))

pub returns-clause-way : goal.returns-clause-way
returns-clause-way c =
    let w : Way = way_of c.args.reached c.args.walk.now in
    let f : FormulaTree = typings c.args.definition.now.params in
    let g : FormulaTree = invariants_of (machines_of c.args.system.now c.args.controller.now) in
    let h : FormulaTree = c.args.definition.now.invariant in
    let v : Way = way_of c.in_ok-typed.typed c.suppose_domains.new.walk in
    let is_v : v ≡ supposing w f = c.in_ok-typed.ensures.way ∙ ap (λ ds. supposing w (typings ds)) c.as_slice.ensures in
    let u : Way = way_of c.in_ok-kept.kept c.suppose_invariants.new.walk in
    let all : supposing u h ≡ supposing w (And f (And g h)) = all_three w v f g h is_v u c.in_ok-kept.ensures.way in
    subst (λ (x : Way). IfOk c.suppose.result (λ r. way_of r c.suppose.new.walk ≡ x)) all c.suppose.ensures.way

pub returns-clause-passes : goal.returns-clause-passes
returns-clause-passes c =
    let w : Way = way_of c.args.reached c.args.walk.now in
    let f : FormulaTree = typings c.args.definition.now.params in
    let g : FormulaTree = invariants_of (machines_of c.args.system.now c.args.controller.now) in
    let h : FormulaTree = c.args.definition.now.invariant in
    let v : Way = way_of c.in_ok-typed.typed c.suppose_domains.new.walk in
    let is_v : v ≡ supposing w f = c.in_ok-typed.ensures.way ∙ ap (λ ds. supposing w (typings ds)) c.as_slice.ensures in
    let u : Way = way_of c.in_ok-kept.kept c.suppose_invariants.new.walk in
    let all : supposing u h ≡ supposing w (And f (And g h)) = all_three w v f g h is_v u c.in_ok-kept.ensures.way in
    subst (λ (x : Way). OnOk c.suppose.result (Passes (Reach x.hypotheses))) all c.suppose.ensures.passes

pub returns-clause-stops : goal.returns-clause-stops
returns-clause-stops c =
    let w : Way = way_of c.args.reached c.args.walk.now in
    let f : FormulaTree = typings c.args.definition.now.params in
    let g : FormulaTree = invariants_of (machines_of c.args.system.now c.args.controller.now) in
    let h : FormulaTree = c.args.definition.now.invariant in
    let v : Way = way_of c.in_ok-typed.typed c.suppose_domains.new.walk in
    let is_v : v ≡ supposing w f = c.in_ok-typed.ensures.way ∙ ap (λ ds. supposing w (typings ds)) c.as_slice.ensures in
    let u : Way = way_of c.in_ok-kept.kept c.suppose_invariants.new.walk in
    let all : supposing u h ≡ supposing w (And f (And g h)) = all_three w v f g h is_v u c.in_ok-kept.ensures.way in
    subst (λ (x : Way). IfErr c.suppose.result (λ e. Stops e (Reach x.hypotheses))) all c.suppose.ensures.stops
