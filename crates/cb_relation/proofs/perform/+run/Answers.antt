use Rattle.std.proofs.Common.{◌≡◌, ◌<◌, [], sym, subst, ◌∙◌, ap}
use Rattle.cb_term.specs.Table.{sizes_of}
use Rattle.cb_term.specs.Holds.{IsValue}
use Rattle.cb_spec.specs.declared.subst.Subst.TheDeep.{size-Subst}
use Rattle.cb_spec.specs.SubstTree.{Assign, Together, Choice, AnyOf, sides_of}
use Rattle.cb_spec.specs.SubstView.{subst_of}
use Rattle.cb_spec.specs.Runs.{Fits}
use Rattle.cb_spec.specs.Stores.{look_of, Puts}
use Rattle.cb_relation.specs.Performing.{CanRun, RunsOver}
use Rattle.cb_relation.specs.Trying.{look_in, IsChosen}
use Rattle.cb_relation.proofs.PerformLemmas.{test_typed, some_meets, body_can_run, over_any, put_back, side_can_run, over_side, side_smaller, body_smaller, over_both, over_assign, on_ok}
use Rattle.cb_relation.proofs.perform.+run.Goals as goal

pub run-requires-in-Choice : goal.run-requires-in-Choice
run-requires-in-Choice g t c κs within =
    let is : c.args.subst.now ≡ Choice (sides_of c.in-Choice.sides) = sym c.subst.view_is ∙ ap subst_of c.in-Choice.is in
    let less : size-Subst c.side.result.now < size-Subst c.args.subst.now =
    subst (λ s. size-Subst c.side.result.now < size-Subst s) (sym is) (side_smaller c.in-Choice.sides c.below-number.result c.side.result.now c.side.ensures) in
    (subst (λ n. size-Subst c.side.result.now < n) c.decreases less, (within, side_can_run (sizes_of c.args.sets.now) (look_in c.args.known.now) c.in-Choice.sides c.below-number.result c.side.result.now c.side.ensures (subst (CanRun (sizes_of c.args.sets.now) (look_in c.args.known.now)) is c.requires)))

pub choose-requires-clause-typed : goal.choose-requires-clause-typed
choose-requires-clause-typed g t c =
    let is : c.args.subst.now ≡ AnyOf c.in-AnyOf.name c.in-AnyOf.domain c.in-AnyOf.test c.in-AnyOf.body.value = sym c.subst.view_is ∙ ap subst_of c.in-AnyOf.is in
    test_typed (sizes_of c.args.sets.now) (look_in c.args.known.now) c.in-AnyOf.name c.in-AnyOf.domain c.in-AnyOf.test c.in-AnyOf.body.value (subst (CanRun (sizes_of c.args.sets.now) (look_in c.args.known.now)) is c.requires)

pub choose-requires-clause-some : goal.choose-requires-clause-some
choose-requires-clause-some g t c =
    let is : c.args.subst.now ≡ AnyOf c.in-AnyOf.name c.in-AnyOf.domain c.in-AnyOf.test c.in-AnyOf.body.value = sym c.subst.view_is ∙ ap subst_of c.in-AnyOf.is in
    some_meets (sizes_of c.args.sets.now) (look_in c.args.known.now) c.in-AnyOf.name c.in-AnyOf.domain c.in-AnyOf.test c.in-AnyOf.body.value (subst (CanRun (sizes_of c.args.sets.now) (look_in c.args.known.now)) is c.requires)

pub run-requires-in-AnyOf : goal.run-requires-in-AnyOf
run-requires-in-AnyOf g t c κs within =
    let is : c.args.subst.now ≡ AnyOf c.in-AnyOf.name c.in-AnyOf.domain c.in-AnyOf.test c.in-AnyOf.body.value = sym c.subst.view_is ∙ ap subst_of c.in-AnyOf.is in
    let body : c.deref-in-AnyOf.result.now ≡ c.in-AnyOf.body.value = c.deref-in-AnyOf.ensures in
    let chosen : IsChosen (sizes_of c.args.sets.now) (look_in c.args.known.now) (look_in c.choose.new.known) c.in-AnyOf.name c.in-AnyOf.domain c.in-AnyOf.test = c.in_ok-choose-in-AnyOf.ensures in
    let less : size-Subst c.deref-in-AnyOf.result.now < size-Subst c.args.subst.now =
    subst (λ s. size-Subst c.deref-in-AnyOf.result.now < size-Subst s) (sym is) (subst (λ s. size-Subst s < size-Subst (AnyOf c.in-AnyOf.name c.in-AnyOf.domain c.in-AnyOf.test c.in-AnyOf.body.value)) (sym body) (body_smaller c.in-AnyOf.name c.in-AnyOf.domain c.in-AnyOf.test c.in-AnyOf.body.value)) in (
      subst (λ n. size-Subst c.deref-in-AnyOf.result.now < n) c.decreases less,
      (within, subst (CanRun (sizes_of c.args.sets.now) (look_in c.choose.new.known)) (sym body) (body_can_run (sizes_of c.args.sets.now) (look_in c.args.known.now) c.in-AnyOf.name c.in-AnyOf.domain c.in-AnyOf.test c.in-AnyOf.body.value (subst (CanRun (sizes_of c.args.sets.now) (look_in c.args.known.now)) is c.requires) (look_in c.choose.new.known) chosen)),
    )

pub returns-in_ok-copy-in-Assign-clause-written : goal.returns-in_ok-copy-in-Assign-clause-written
returns-in_ok-copy-in-Assign-clause-written g t c =
    let is : c.args.subst.now ≡ Assign c.in-Assign.target c.in-Assign.value = sym c.subst.view_is ∙ ap subst_of c.in-Assign.is in
    let value : IsValue (sizes_of c.args.sets.now) (look_in c.args.known.now) c.in-Assign.value [] c.in_ok-value-in-Assign.value =
    subst (λ w. IsValue (sizes_of c.args.sets.now) (look_of w) c.in-Assign.value [] c.in_ok-value-in-Assign.value) c.store.ensures c.in_ok-value-in-Assign.ensures in
    on_ok c.insert.result c.insert.ensures.ok (λ puts. subst (λ s. RunsOver (sizes_of c.args.sets.now) s (look_in c.args.known.now) c.args.written.now c.insert.new.self) (sym is)
    (over_assign (sizes_of c.args.sets.now) (look_in c.args.known.now) c.in-Assign.target c.in-Assign.value c.in_ok-value-in-Assign.value c.args.written.now c.insert.new.self value
    (subst (λ x. Puts c.args.written.now c.insert.new.self x c.in_ok-value-in-Assign.value) c.in_ok-copy-in-Assign.ensures puts)))

pub returns-in_ok-run-in-Together-clause-written :
    goal.returns-in_ok-run-in-Together-clause-written
returns-in_ok-run-in-Together-clause-written g t c =
    let is : c.args.subst.now ≡ Together c.in-Together.left.value c.in-Together.right.value = sym c.subst.view_is ∙ ap subst_of c.in-Together.is in
    let left : RunsOver (sizes_of c.args.sets.now) c.in-Together.left.value (look_in c.args.known.now) c.args.written.now c.run.new.written =
    subst (λ s. RunsOver (sizes_of c.args.sets.now) s (look_in c.args.known.now) c.args.written.now c.run.new.written) c.deref.ensures c.in_ok-run-in-Together.ensures.written in
    on_ok c.run-in-Together.result c.run-in-Together.ensures.written (λ r. subst (λ s. RunsOver (sizes_of c.args.sets.now) s (look_in c.args.known.now) c.args.written.now c.run-in-Together.new.written) (sym is)
    (over_both (sizes_of c.args.sets.now) (look_in c.args.known.now) c.in-Together.left.value c.in-Together.right.value c.args.written.now c.run.new.written c.run-in-Together.new.written (subst (Fits (sizes_of c.args.sets.now)) is c.requires.fits) left
    (subst (λ s. RunsOver (sizes_of c.args.sets.now) s (look_in c.args.known.now) c.run.new.written c.run-in-Together.new.written) c.deref-in-Together.ensures
    (subst (λ l. RunsOver (sizes_of c.args.sets.now) c.deref-in-Together.result.now l c.run.new.written c.run-in-Together.new.written) c.in_ok-run-in-Together.ensures.known r))))

pub returns-in-Choice-clause-written : goal.returns-in-Choice-clause-written
returns-in-Choice-clause-written g t c =
    let is : c.args.subst.now ≡ Choice (sides_of c.in-Choice.sides) = sym c.subst.view_is ∙ ap subst_of c.in-Choice.is in
    on_ok c.run-in-Choice.result c.run-in-Choice.ensures.written (λ r. subst (λ s. RunsOver (sizes_of c.args.sets.now) s (look_in c.args.known.now) c.args.written.now c.run-in-Choice.new.written) (sym is)
    (over_side (sizes_of c.args.sets.now) (look_in c.args.known.now) c.in-Choice.sides c.below-number.result c.side.result.now c.args.written.now c.run-in-Choice.new.written c.side.ensures r))

pub returns-in_ok-run-in-AnyOf-clause-known : goal.returns-in_ok-run-in-AnyOf-clause-known
returns-in_ok-run-in-AnyOf-clause-known g t c =
    let chosen : IsChosen (sizes_of c.args.sets.now) (look_in c.args.known.now) (look_in c.choose.new.known) c.in-AnyOf.name c.in-AnyOf.domain c.in-AnyOf.test = c.in_ok-choose-in-AnyOf.ensures in
    let before : c.in_ok-before-in-AnyOf.before ≡ (look_in c.args.known.now) c.in-AnyOf.name = c.in_ok-before-in-AnyOf.ensures ∙ ap (λ w. look_of w c.in-AnyOf.name) c.store-in-AnyOf.ensures in
    on_ok c.put.result c.put.ensures
    (put_back (look_in c.args.known.now) (look_in c.run-in-AnyOf.new.known) (look_in c.put.new.self) c.in-AnyOf.name chosen.0 c.in_ok-before-in-AnyOf.before (c.in_ok-run-in-AnyOf.ensures.known ∙ chosen.1.2) before)

pub returns-in_ok-run-in-AnyOf-clause-written : goal.returns-in_ok-run-in-AnyOf-clause-written
returns-in_ok-run-in-AnyOf-clause-written g t c =
    let is : c.args.subst.now ≡ AnyOf c.in-AnyOf.name c.in-AnyOf.domain c.in-AnyOf.test c.in-AnyOf.body.value = sym c.subst.view_is ∙ ap subst_of c.in-AnyOf.is in
    let chosen : IsChosen (sizes_of c.args.sets.now) (look_in c.args.known.now) (look_in c.choose.new.known) c.in-AnyOf.name c.in-AnyOf.domain c.in-AnyOf.test = c.in_ok-choose-in-AnyOf.ensures in
    let body : RunsOver (sizes_of c.args.sets.now) c.in-AnyOf.body.value (look_in c.choose.new.known) c.args.written.now c.run-in-AnyOf.new.written =
    subst (λ s. RunsOver (sizes_of c.args.sets.now) s (look_in c.choose.new.known) c.args.written.now c.run-in-AnyOf.new.written) c.deref-in-AnyOf.ensures c.in_ok-run-in-AnyOf.ensures.written in
    on_ok c.put.result c.put.ensures (λ put. subst (λ s. RunsOver (sizes_of c.args.sets.now) s (look_in c.args.known.now) c.args.written.now c.run-in-AnyOf.new.written) (sym is)
    (over_any (sizes_of c.args.sets.now) (look_in c.args.known.now) c.in-AnyOf.name c.in-AnyOf.domain c.in-AnyOf.test c.in-AnyOf.body.value (subst (CanRun (sizes_of c.args.sets.now) (look_in c.args.known.now)) is c.requires) (look_in c.choose.new.known) c.args.written.now c.run-in-AnyOf.new.written chosen body))
