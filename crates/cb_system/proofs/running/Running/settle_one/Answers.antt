use Rattle.std.proofs.Common.{◌<◌, ◌^◌, ◌++◌, ◌∷◌, [], List, length, IfNone, refl, sym, subst, ap, ◌∙◌, arith}
use Rattle.cb_spec.specs.declared.state.Entry.{Entry}
use Rattle.cb_spec.specs.declared.state.Entry.TheVariants as entry
use Rattle.cb_spec.specs.Journals.{events}
use Rattle.cb_system.specs.Views.{RunView, last_end}
use Rattle.cb_system.specs.Moves.{AreGood, env_at, IsUnsettled, IsElsewhere}
use Rattle.cb_system.proofs.PlaceLemmas.{taken_is}
use Rattle.cb_system.proofs.StepLemmas.{settled_fact, settled_counts, step_settled}
use Rattle.cb_spec.specs.States.{state_of}
use Rattle.cb_code.specs.declared.place.Place.{Place}
use Rattle.cb_offers.specs.declared.offers.Side.{Side}
use Rattle.cb_offers.specs.Tables.{AreWithin}
use Rattle.cb_beginning.specs.Placed.{state_in}
use Rattle.cb_system.specs.Rows.{row_at}
use Rattle.cb_system.specs.Steps.{IsUnresolved}
use Rattle.cb_system.proofs.ShownLemmas.{shown_few, shown_within, row_is}
use Rattle.cb_system.proofs.TabledLemmas.{tabled_over}
use Rattle.cb_system.proofs.StepsLemmas.{unresolved_there, resolved_there}
use Rattle.cb_system.proofs.running.Running.settle_one.Goals as goal

pub settled_at-requires-clause-good : goal.settled_at-requires-clause-good
settled_at-requires-clause-good g c =
    let i = c.self.inside in
    let good : AreGood i.sound i.code i.store i.places.items = record { limit = i.limit; beginning = i.initial; journal = i.journal.items; good = c.self.invariant.0.0.good } in
    (i.store, subst (λ y. AreGood y i.code i.store c.as_slice.result.now) (sym c.spec.ensures.system) (subst (AreGood i.sound i.code i.store) (sym c.as_slice.ensures.value) good))

pub overflow_sub-self : goal.overflow_sub-self
overflow_sub-self g c =
    let i = c.self.inside in
    let settled = settled_fact i.sound c.spec.result.now i.code i.places.items c.as_slice.result.now c.args.controller _ c.in-Some.settled c.in_ok-settled.ensures.some c.in-Some.is c.spec.ensures.system c.as_slice.ensures.value in
    let counts = settled_counts _ _ _ _ _ _ _ _ _ _ _ _ _ _ c.self.invariant.0 c.args.controller c.in-Some.settled.0 c.in-Some.settled.1 settled in
    omega (arith, counts)

pub living_after-self-inside-requires : goal.living_after-self-inside-requires
living_after-self-inside-requires g c =
    let i = c.self.inside in
    let settled = settled_fact i.sound c.spec.result.now i.code i.places.items c.as_slice.result.now c.args.controller _ c.in-Some.settled c.in_ok-settled.ensures.some c.in-Some.is c.spec.ensures.system c.as_slice.ensures.value in
    let counts = settled_counts _ _ _ _ _ _ _ _ _ _ _ _ _ _ c.self.invariant.0 c.args.controller c.in-Some.settled.0 c.in-Some.settled.1 settled in
    counts.1

pub next-requires : goal.next-requires
next-requires g c =
    let i = c.self.inside in
    let settled = settled_fact i.sound c.spec.result.now i.code i.places.items c.as_slice.result.now c.args.controller _ c.in-Some.settled c.in_ok-settled.ensures.some c.in-Some.is c.spec.ensures.system c.as_slice.ensures.value in
    subst IsUnsettled (sym (taken_is i.places.items c.args.controller c.index_mut.result.now c.replace-place.result _ settled.1.1.1.1.0 c.index_mut.ensures.value c.replace-place.ensures.value)) tt

pub returns-in_default-clause-journal : goal.returns-in_default-clause-journal
returns-in_default-clause-journal g c =
    let i = c.self.inside in
    let some : IsElsewhere c.as_slice.result.now c.args.controller = subst (λ o. IfNone o (IsElsewhere c.as_slice.result.now c.args.controller)) c.in_default.is c.in_ok-settled.ensures.none in
    let none : IsElsewhere i.places.items c.args.controller = subst (λ (qs : List Place). IsElsewhere qs c.args.controller) c.as_slice.ensures.value some in (
      subst (λ (r : RunView). ¬ IsUnresolved (state_of r.state) c.args.controller) c.self.view_is (resolved_there i.sound i.code i.store i.places.items c.args.controller none),
      ap (λ (l : List Entry). let v : RunView = record { system = i.sound; limit = i.limit; initial = i.initial; journal = l; state = state_in i.code i.store i.places.items } in v) c.in_ok-reserve.ensures.items ∙ c.self.view_is,
    )

pub set-requires-clause-within : goal.set-requires-clause-within
set-requires-clause-within g c =
    let i = c.self.inside in
    let settled = settled_fact i.sound c.spec.result.now i.code i.places.items c.as_slice.result.now c.args.controller _ c.in-Some.settled c.in_ok-settled.ensures.some c.in-Some.is c.spec.ensures.system c.as_slice.ensures.value in
    let within = shown_within i.sound i.limit i.initial i.journal.items i.code i.store i.places.items i.bodies.items i.count i.end _ _ i.unsettled i.living c.self.invariant.0 c.args.controller c.in-Some.settled.0 c.in-Some.settled.1 settled (ap (λ (r : RunView). last_end r.journal) c.self.view_is ∙ c.requires.open) (subst (λ (r : RunView). events r.journal < r.limit) (sym c.self.view_is) c.requires.more) in
    subst (λ n. AreWithin n c.as_slice-3.result.now) (sym c.self.invariant.1.channels_are) (subst (AreWithin (length i.sound.channels)) (sym (c.as_slice-3.ensures.value ∙ c.in_ok-row.ensures)) within)

pub set-requires-clause-few : goal.set-requires-clause-few
set-requires-clause-few g c =
    let i = c.self.inside in
    let settled = settled_fact i.sound c.spec.result.now i.code i.places.items c.as_slice.result.now c.args.controller _ c.in-Some.settled c.in_ok-settled.ensures.some c.in-Some.is c.spec.ensures.system c.as_slice.ensures.value in
    subst (λ (row : List Side). length row < 2 ^ 32) (sym (c.as_slice-3.ensures.value ∙ c.in_ok-row.ensures)) (shown_few i.sound i.limit i.initial i.journal.items i.code i.store i.places.items i.bodies.items i.count i.end _ _ i.unsettled i.living c.self.invariant.0 c.args.controller c.in-Some.settled.0 c.in-Some.settled.1 settled)

pub invariant_of-self-2 : goal.invariant_of-self-2
invariant_of-self-2 g c =
    let i = c.self.inside in
    let settled = settled_fact i.sound c.spec.result.now i.code i.places.items c.as_slice.result.now c.args.controller _ c.in-Some.settled c.in_ok-settled.ensures.some c.in-Some.is c.spec.ensures.system c.as_slice.ensures.value in
    let e : Entry = entry.Settle c.args.controller c.in-Some.settled.1 in
    let row = c.as_slice-3.ensures.value ∙ c.in_ok-row.ensures ∙ row_is i.code (env_at c.replace-place.result) c.in-Some.settled.0 ∙ ap (row_at i.code) (sym c.next.ensures) in (
      step_settled i.sound i.limit i.initial i.journal.items i.code i.store i.places.items i.bodies.items i.count i.end _ _ i.unsettled i.living c.self.invariant.0 c.args.controller c.in-Some.settled.0 c.in-Some.settled.1 settled _ _ _ _ c.push_reserved.new.self.items c.replace-place.new.dest c.replace-place.result c.next.result (ap (λ (r : RunView). last_end r.journal) c.self.view_is ∙ c.requires.open) (subst (λ (r : RunView). events r.journal < r.limit) (sym c.self.view_is) c.requires.more)
          (c.push_reserved.ensures.items ∙ ap (λ (l : List Entry). l ++ e ∷ []) c.in_ok-reserve.ensures.items)
          (taken_is i.places.items c.args.controller c.index_mut.result.now c.replace-place.result _ settled.1.1.1.1.0 c.index_mut.ensures.value c.replace-place.ensures.value)
          c.next.ensures (let p = c.push_reserved.ensures in let r = c.in_ok-reserve.ensures in omega (arith, p.len, p.capacity, r.len, r.capacity, r.ok)) refl c.living_after-self-inside.ensures,
      tabled_over i.sound i.code i.places.items i.offers c.self.invariant.1 c.args.controller c.replace-place.new.dest c.next.result c.as_slice-3.result.now c.set.new.self c.in_ok-set.ensures.ok row,
    )

pub returns-clause-journal : goal.returns-clause-journal
returns-clause-journal g c =
    let i = c.self.inside in
    let settled = settled_fact i.sound c.spec.result.now i.code i.places.items c.as_slice.result.now c.args.controller _ c.in-Some.settled c.in_ok-settled.ensures.some c.in-Some.is c.spec.ensures.system c.as_slice.ensures.value in
    let e : Entry = entry.Settle c.args.controller c.in-Some.settled.1 in (
      subst (λ (r : RunView). IsUnresolved (state_of r.state) c.args.controller) c.self.view_is (unresolved_there i.sound i.code i.store i.places.items c.args.controller c.in-Some.settled.0 c.in-Some.settled.1 settled),
      (
        c.in-Some.settled.1,
        c.push_reserved.ensures.items ∙ ap (λ (l : List Entry). l ++ e ∷ []) c.in_ok-reserve.ensures.items ∙ ap (λ (r : RunView). r.journal ++ e ∷ []) c.self.view_is,
      ),
    )
