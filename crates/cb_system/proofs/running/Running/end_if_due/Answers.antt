use Rattle.std.proofs.Common.{◌≡◌, ◌++◌, ◌∷◌, [], IfNone, inr, refl, sym, subst, ap, ◌∙◌}
use Rattle.cb_spec.specs.declared.state.Entry.TheVariants as entry
use Rattle.cb_spec.specs.States.{state_of}
use Rattle.cb_spec.specs.Journals.{Due}
use Rattle.cb_beginning.specs.Placed.{state_in}
use Rattle.cb_system.specs.Views.{RunView, last_end}
use Rattle.cb_system.specs.Steps.{IsGoing}
use Rattle.cb_system.proofs.StepLemmas.{ends}
use Rattle.cb_system.proofs.DueLemmas.{due_is, none_due, more_due}
use Rattle.cb_system.proofs.running.Running.end_if_due.Goals as goal

pub returns-in_err-due-clause-none : goal.returns-in_err-due-clause-none
returns-in_err-due-clause-none c =
    let i = c.self.inside in
    let seen : RunView = record { system = i.sound; limit = i.limit; initial = i.initial; journal = i.journal.items; state = state_in i.code i.store i.places.items } in
    let going : IsGoing seen = record {
      unended = sym c.self.invariant.0.0.end_is ∙ c.in_default.is;
      none_due = none_due i.sound i.limit i.initial i.journal.items i.code i.store i.places.items i.bodies.items i.count i.end _ _ i.unsettled i.living i.offers.rows c.self.invariant.1.rows_are c.self.invariant.0.0 c.self.invariant.0.1 c.self.invariant.0.3 c.in_err-due.ensures;
      more = more_due i.sound i.limit i.initial i.journal.items i.code i.store i.places.items i.bodies.items i.count i.end _ _ i.unsettled i.living i.offers.rows c.self.invariant.1.rows_are c.self.invariant.0.0 c.self.invariant.0.1 c.self.invariant.0.3 c.in_err-due.ensures;
    } in
    subst (λ o. IfNone o (IsGoing c.args.self.now × (c.args.self.now ≡ c.args.self.now))) (sym c.from_residual.ensures) (subst IsGoing c.self.view_is going, refl)

pub invariant_of-self : goal.invariant_of-self
invariant_of-self c =
    let i = c.self.inside in (
      ends i.sound i.limit i.initial i.journal.items i.code i.store i.places.items i.bodies.items i.count i.end _ _ i.unsettled i.living c.self.invariant.0 c.in_ok-due.due _ _ _ (due_is i.sound i.limit i.initial i.journal.items i.code i.store i.places.items i.bodies.items i.count i.end _ _ i.unsettled i.living i.offers.rows c.self.invariant.1.rows_are c.self.invariant.0.0 c.self.invariant.0.1 c.self.invariant.0.3 c.in_ok-due.due c.in_ok-due.ensures) (sym c.self.invariant.0.0.end_is ∙ c.in_default.is) c.push_reserved.ensures.items,
      c.self.invariant.1,
    )

pub returns-clause-some : goal.returns-clause-some
returns-clause-some c =
    let i = c.self.inside in
    inr (record {
      unended = ap (λ (r : RunView). last_end r.journal) (sym c.self.view_is) ∙ (sym c.self.invariant.0.0.end_is ∙ c.in_default.is);
      due = subst (λ (r : RunView). Due r.system r.limit r.journal (state_of r.state) c.in_ok-due.due) c.self.view_is (due_is i.sound i.limit i.initial i.journal.items i.code i.store i.places.items i.bodies.items i.count i.end _ _ i.unsettled i.living i.offers.rows c.self.invariant.1.rows_are c.self.invariant.0.0 c.self.invariant.0.1 c.self.invariant.0.3 c.in_ok-due.due c.in_ok-due.ensures);
      journal = c.push_reserved.ensures.items ∙ ap (λ (r : RunView). r.journal ++ entry.End c.in_ok-due.due ∷ []) c.self.view_is;
      state = ap (λ (r : RunView). r.state) c.self.view_is;
    })
