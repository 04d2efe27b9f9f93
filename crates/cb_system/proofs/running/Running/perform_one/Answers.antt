use Rattle.std.proofs.Common.{◌<◌, ◌++◌, ◌∷◌, [], List, length, refl, sym, subst, ap, ◌∙◌, arith}
use Rattle.std.proofs.lemmas.Grind.{common_steps}
use Rattle.cb_spec.specs.declared.state.Entry.{Entry}
use Rattle.cb_spec.specs.declared.state.Entry.TheVariants as entry
use Rattle.cb_spec.specs.States.{state_of}
use Rattle.cb_spec.specs.Journals.{events}
use Rattle.cb_spec.specs.declared.system.System.{System}
use Rattle.cb_code.specs.declared.place.Place.{Place}
use Rattle.cb_code.specs.declared.place.Place.TheVariants.{At}
use Rattle.cb_system.proofs.TabledLemmas.{tabled_set}
use Rattle.cb_spec.specs.Stores.{look_of}
use Rattle.cb_safety_laws.specs.Causes.{IsCall, Offers}
use Rattle.cb_system.specs.Views.{RunView, last_end}
use Rattle.cb_system.specs.Firing.{CanPerform}
use Rattle.cb_system.proofs.FiredLemmas.{performed_fact, performed_few, caller_within, step_performed}
use Rattle.cb_system.proofs.running.Running.perform_one.Goals as goal

pub performed_at-requires : goal.performed_at-requires
performed_at-requires g c =
    let i = c.self.inside in
    let can : CanPerform i.sound i.code i.store i.places.items c.args.controller c.args.branch = record {
      good = record { limit = i.limit; beginning = i.initial; journal = i.journal.items; good = c.self.invariant.0.0.good };
      room = c.self.invariant.0.2;
      prefixes = c.self.invariant.0.1.offered;
      offers = subst (λ (r : RunView). Offers IsCall (state_of r.state) c.args.controller c.args.branch) (sym c.self.view_is) c.requires.call;
    } in
    subst (λ (y : System). CanPerform y i.code i.store c.as_slice.result.now c.args.controller c.args.branch) (sym c.spec.ensures.system)
    (subst (λ (qs : List Place). CanPerform i.sound i.code i.store qs c.args.controller c.args.branch) (sym c.as_slice.ensures.value) can)

pub overflow_add-self-2 : goal.overflow_add-self-2
overflow_add-self-2 g c =
    let i = c.self.inside in
    let performed = performed_fact i.sound c.spec.result.now i.code i.places.items c.as_slice.result.now (look_of i.store) c.args.controller c.args.branch c.in_ok-performed.performed c.in_ok-performed.ensures.ok c.spec.ensures.system c.as_slice.ensures.value in
    let few = performed_few i.sound i.limit i.initial i.journal.items i.code i.store i.places.items i.bodies.items i.count i.end _ _ i.unsettled i.living c.self.invariant.0 c.args.controller c.args.branch c.in_ok-performed.performed performed in
    omega (arith, few)

pub index_mut-requires : goal.index_mut-requires
index_mut-requires g c =
    let i = c.self.inside in
    let performed = performed_fact i.sound c.spec.result.now i.code i.places.items c.as_slice.result.now (look_of i.store) c.args.controller c.args.branch c.in_ok-performed.performed c.in_ok-performed.ensures.ok c.spec.ensures.system c.as_slice.ensures.value in
    let low : c.args.controller < length i.places.items = caller_within i.sound i.limit i.initial i.journal.items i.code i.store i.places.items i.bodies.items i.count i.end _ _ i.unsettled i.living c.self.invariant.0 c.args.controller c.args.branch c.in_ok-performed.performed performed in
    grind (arith, common_steps)

pub invariant_of-self-2 : goal.invariant_of-self-2
invariant_of-self-2 g c =
    let i = c.self.inside in
    let performed = performed_fact i.sound c.spec.result.now i.code i.places.items c.as_slice.result.now (look_of i.store) c.args.controller c.args.branch c.in_ok-performed.performed c.in_ok-performed.ensures.ok c.spec.ensures.system c.as_slice.ensures.value in
    let r = c.in_ok-performed.performed in
    let e : Entry = entry.Op c.args.controller c.args.branch r.machine r.operation r.args r.called.results r.called.written in (
      step_performed i.sound i.limit i.initial i.journal.items i.code i.store i.places.items i.bodies.items i.count i.end _ _ i.unsettled i.living c.self.invariant.0 c.args.controller c.args.branch r performed _ _ _ _ c.push_reserved.new.self.items c.performed_at.new.store (ap (λ (r : RunView). last_end r.journal) c.self.view_is ∙ c.requires.open) (subst (λ (r : RunView). events r.journal < r.limit) (sym c.self.view_is) c.requires.more)
          (c.push_reserved.ensures.items ∙ ap (λ (l : List Entry). l ++ e ∷ []) c.in_ok-reserve.ensures.items) c.in_ok-performed.ensures.written c.in_ok-performed.ensures.names (let p = c.push_reserved.ensures in let r = c.in_ok-reserve.ensures in omega (arith, p.len, p.capacity, r.len, r.capacity, r.ok)) refl refl,
      tabled_set i.sound i.code i.places.items i.offers c.self.invariant.1 c.args.controller (At r.next r.env) [] c.clear.new.self c.clear.ensures refl,
    )
